-- A response of the proxy's own is the same without the lines with credentials.
use Rattle.fork_call.proofs.OpeningCommon.{◌≡◌, ◌∙◌, ℕ, false, List, [], map, take, refl, ap, arith, codes, MessageText}
use Rattle.sip_text.specs.Name.{full_name, values_of}
use Rattle.sip_text.specs.Text.{HeaderText}
use Rattle.sip_via.specs.Edits.{with_headers}
use Rattle.sip_route.specs.Lines.{lines_among}
use Rattle.sip_build.specs.declared.responses.OwnStatus.{OwnStatus}
use Rattle.sip_build.specs.Generated.{generated_of, timestamp_lines, to_lines}
use Rattle.sip_build.specs.OwnTag.{own_tag}
use Rattle.proxy_routing.specs.OwnCredentials.{AreSameBut}
use Rattle.proxy_routing.proofs.laws.LineValues.{same_values}
use Rattle.proxy_routing.proofs.laws.OwnCredentials.{credentials}

-- what a response is made of
record Same (hs ks : List HeaderText) : Type 0 where
  via : lines_among (codes "via") hs ≡ lines_among (codes "via") ks
  from : lines_among (codes "from") hs ≡ lines_among (codes "from") ks
  to : lines_among (codes "to") hs ≡ lines_among (codes "to") ks
  call : lines_among (codes "call-id") hs ≡ lines_among (codes "call-id") ks
  cseq : lines_among (codes "cseq") hs ≡ lines_among (codes "cseq") ks
  stamp : lines_among (codes "timestamp") hs ≡ lines_among (codes "timestamp") ks
  from_values : values_of (codes "from") hs ≡ values_of (codes "from") ks
  to_values : values_of (codes "to") hs ≡ values_of (codes "to") ks
  call_values : values_of (codes "call-id") hs ≡ values_of (codes "call-id") ks
  cseq_values : values_of (codes "cseq") hs ≡ values_of (codes "cseq") ks
  required : values_of (codes "proxy-require") hs ≡ values_of (codes "proxy-require") ks

others_same : (hs ks : List HeaderText) → AreSameBut credentials hs ks → Same hs ks
unfolding full_name
others_same hs ks same = record {
  via = same (codes "via") refl;
  from = same (codes "from") refl;
  to = same (codes "to") refl;
  call = same (codes "call-id") refl;
  cseq = same (codes "cseq") refl;
  stamp = same (codes "timestamp") refl;
  from_values = same_values credentials hs ks same (codes "from") refl;
  to_values = same_values credentials hs ks same (codes "to") refl;
  call_values = same_values credentials hs ks same (codes "call-id") refl;
  cseq_values = same_values credentials hs ks same (codes "cseq") refl;
  required = same_values credentials hs ks same (codes "proxy-require") refl;
}

tag_same : (m : MessageText) (hs : List HeaderText) → Same hs m.headers → own_tag (with_headers m hs) ≡ own_tag m
unfolding own_tag
tag_same m hs same = grind arith

to_same : (status : OwnStatus) (m : MessageText) (hs : List HeaderText) → Same hs m.headers → to_lines status (with_headers m hs) ≡ to_lines status m
to_same status m hs same = grind (arith, tag_same)

response_same : (status : OwnStatus) (m : MessageText) (further hs : List HeaderText) → Same hs m.headers → generated_of (with_headers m hs) status further ≡ generated_of m status further
response_same status m further hs same = grind (arith, to_same)

pub answers_without : (m : MessageText) (lines : List HeaderText) (status : OwnStatus) (further : List HeaderText) → AreSameBut credentials lines m.headers
    → generated_of (with_headers m lines) status further ≡ generated_of m status further
answers_without m lines status further same = response_same status m further lines (others_same lines m.headers same)

pub timestamps_without : (m : MessageText) (lines : List HeaderText) → AreSameBut credentials lines m.headers → timestamp_lines (with_headers m lines) ≡ timestamp_lines m
timestamps_without m lines same = ap (λ (ls : List HeaderText). take 1 ls) (others_same lines m.headers same).stamp
