-- A Via value that begins as most do, by what stands behind its transport.
use Rattle.sip_via.proofs.Common.{◌≡◌, ℕ, true, List, ◌++◌, take, drop, refl, sym, ap, ◌∙◌, codes, bytes_eq}
use Rattle.sip_via.specs.ViaParts.{parts_of}
use Rattle.sip_via.specs.inner.SentParts.{sent_parts}
use Rattle.sip_via.proofs.laws.PlainVia.{begins}

pub parts_behind : (rest : List ℕ) → parts_of (codes "SIP/2.0/UDP " ++ rest) ≡ sent_parts (codes "SIP") (codes "2.0") (codes "UDP") rest
unfolding parts_of
parts_behind rest = refl

-- what the front of a text says
pub parts_known : (text rest : List ℕ) → bytes_eq (take 12 text) (codes "SIP/2.0/UDP ") ≡ true → rest ≡ drop 12 text → sent_parts (codes "SIP") (codes "2.0") (codes "UDP") rest ≡ parts_of text
parts_known text rest same behind = sym (parts_behind rest) ∙ ap parts_of (sym (begins (codes "SIP/2.0/UDP ") text rest same behind))
