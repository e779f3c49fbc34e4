use Rattle.proxy_dispatch.proofs.Common.{[], refl, seen_sent}
use Rattle.sip_text.specs.Fault.{fault_seen}
use Rattle.proxy_dispatch.proofs.Becoming.{unread_becomes}
use Rattle.proxy_dispatch.proofs.datagrams.handle.Goals as goal

pub returns-in_ok-outcome-in-Err-clause-became : goal.returns-in_ok-outcome-in-Err-clause-became
returns-in_ok-outcome-in-Err-clause-became g c =
    let outcome = c.in_ok-outcome-in-Err.outcome in
    let received = c.args.received in (
      [],
      seen_sent outcome.datagram,
      refl,
      unread_becomes (g.N.Admission.serving c.args.admission.now) c.args.setup.now received.bytes.now received.source received.now outcome.handled (seen_sent outcome.datagram)
          c.faults_are_of_the_text.ensures.found (fault_seen c.in-Err.fault) c.in-Err.ensures.exact c.in_ok-outcome-in-Err.ensures,
      c.hand.ensures,
    )
