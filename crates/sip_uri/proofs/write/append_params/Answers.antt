use Rattle.sip_uri.proofs.Common.{◌∷◌, ◌++◌, [], sym, vec_len, arith, option_copied, pieces_behind, false≢true, length-append}
use Rattle.sip_uri.proofs.Written.{begins_still, kept_text, next_fits, next_text}
use Rattle.sip_uri.proofs.write.append_params.Goals as goal

pub loop-rest-preserved : goal.loop-rest-preserved
loop-rest-preserved g c =
    let h = c.loop-rest.invariant.text in
    record {
      text = next_text c.loop-rest.out.items c.append_param.new.out.items _ c.in-Some.text.now c.cut_at.result.0.now (option_copied c.cut_at.result.1) c.cut_at.ensures.value c.in_ok-append_param.ensures.ok (rw c.in-Some.is at h);
      begins = begins_still (vec_len c.args.out.now) c.args.out.now.items c.loop-rest.out.items c.append_param.new.out.items (kept_text (c.cut_at.result.0.now ∷ [])) (sym c.args.out.now.ok.0) c.loop-rest.invariant.begins c.in_ok-append_param.ensures.ok;
      capacity = omega (arith, c.loop-rest.invariant.capacity, c.append_param.ensures.capacity);
    }

pub returns-in_err-append_param-clause-room : goal.returns-in_err-append_param-clause-room
returns-in_err-append_param-clause-room g c = λ room.
    let before = c.args.out.now.items in
    let params = kept_text (pieces_behind 59 (option_copied c.args.params)) in
    let fits = next_fits c.loop-rest.out.items (before ++ params) c.in-Some.text.now c.cut_at.result.0.now (option_copied c.cut_at.result.1) c.cut_at.ensures.value (rw c.in-Some.is at c.loop-rest.invariant.text) in
    absurd (false≢true (c.in_err-append_param.ensures.room (omega (arith, room, fits, length-append before params, c.loop-rest.invariant.capacity, c.args.out.now.ok.0, c.loop-rest.out.ok.0))))
