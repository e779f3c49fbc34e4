use Rattle.sip_builders.proofs.Common.{None, forwarded}
use Rattle.sip_uri.proofs.Requests.{request_bytes}
use Rattle.sip_via.proofs.laws.OwnVia.{own_via-good}
use Rattle.sip_branch.proofs.laws.Tokens.{branch_token}
use Rattle.sip_builders.proofs.Forwarded.{forwarded-good}
use Rattle.sip_builders.proofs.WrittenTexts.{is_written, spelled}
use Rattle.sip_builders.proofs.forwarding.forward.Goals as goal

pub read_written-requires : goal.read_written-requires
read_written-requires g c =
    let m = forwarded c.args.message.now c.args.target.now c.args.own c.args.branch.now None in
    let good = forwarded-good c.args.message.now c.args.target.now c.args.own c.args.branch.now c.is_message.ensures c.requires.request c.requires.hops c.is_uri.ensures (request_bytes c.args.target.now c.is_uri.ensures) (own_via-good c.args.own c.args.branch.now c.fact_own.ensures (branch_token c.args.branch.now c.fact_branch.ensures)) in
    let text = spelled c.new-text.result.items c.write_forwarded.new.out.items c.deref.result.now m c.new-text.ensures.items c.in_ok-write_forwarded.ensures.ok c.deref.ensures.value in
    is_written c.deref.result.now m good text

pub returns-clause-ok : goal.returns-clause-ok
returns-clause-ok g c =
    let m = forwarded c.args.message.now c.args.target.now c.args.own c.args.branch.now None in
    let good = forwarded-good c.args.message.now c.args.target.now c.args.own c.args.branch.now c.is_message.ensures c.requires.request c.requires.hops c.is_uri.ensures (request_bytes c.args.target.now c.is_uri.ensures) (own_via-good c.args.own c.args.branch.now c.fact_own.ensures (branch_token c.args.branch.now c.fact_branch.ensures)) in
    let text = spelled c.new-text.result.items c.write_forwarded.new.out.items c.deref.result.now m c.new-text.ensures.items c.in_ok-write_forwarded.ensures.ok c.deref.ensures.value in
    c.in_ok-read_written.ensures m good text
