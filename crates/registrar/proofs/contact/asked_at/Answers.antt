use Rattle.sip_uri.specs.Key.{key_of}
use Rattle.registrar.proofs.contact.asked_at.Goals as goal

pub returns : goal.returns
returns g c = λ i. record {
  contact = record {
    item = c.in_ok-shown.ensures i;
    uri = c.args.address.now;
    key = key_of c.args.uri;
    q = c.q_of.ensures i;
    instance = c.value_named.ensures i;
    reg_id = c.value_named-2.ensures i;
    hop = c.hop_from-hop.ensures i;
  };
  time = c.time_of.ensures i;
}
