-- A response of the proxy's own is the same once the first Route value is gone.
use Rattle.sip_build.proofs.Common.{◌≡◌, ℕ, false, List, [], ◌∷◌, take, Option, Some, None, refl, ap, codes, Plain, option_map, cond_both, trim, first_value, same_name, values_of, HeaderText, MessageText, Own, replaced, with_headers, lines_among}
use Rattle.sip_build.proofs.Common.{apart, values-replaced, OwnStatus, generated_of, timestamp_lines, to_lines, arith}
use Rattle.sip_lex.specs.Sheltered.{cut_outside}
use Rattle.sip_lex.specs.declared.sheltered.Shelter.TheVariants.{QuotesAndAngles}
use Rattle.sip_text.specs.Name.{full_name}
use Rattle.sip_route.specs.Routes.{names_own, route_name, stripped, stripped_at, without_first}
use Rattle.sip_build.specs.OwnTag.{own_tag}

-- ---- lines of another name

among-replaced : (other name : List ℕ) (value : Option (List ℕ)) (hs : List HeaderText) → same_name name other ≡ false → lines_among other (replaced name value hs) ≡ lines_among other hs
among-replaced other name value [] differ = refl
among-replaced other name value (h ∷ hs) differ = grind (arith, apart, among-replaced other name value hs differ)

-- ---- what a response is made of

record Same (hs ks : List HeaderText) : Type 0 where
  via : lines_among (codes "via") hs ≡ lines_among (codes "via") ks
  from : lines_among (codes "from") hs ≡ lines_among (codes "from") ks
  to : lines_among (codes "to") hs ≡ lines_among (codes "to") ks
  call : lines_among (codes "call-id") hs ≡ lines_among (codes "call-id") ks
  cseq : lines_among (codes "cseq") hs ≡ lines_among (codes "cseq") ks
  stamp : lines_among (codes "timestamp") hs ≡ lines_among (codes "timestamp") ks
  from_values : values_of (codes "from") hs ≡ values_of (codes "from") ks
  to_values : values_of (codes "to") hs ≡ values_of (codes "to") ks
  call_values : values_of (codes "call-id") hs ≡ values_of (codes "call-id") ks
  cseq_values : values_of (codes "cseq") hs ≡ values_of (codes "cseq") ks
  required : values_of (codes "proxy-require") hs ≡ values_of (codes "proxy-require") ks

routes-same : (value : Option (List ℕ)) (hs : List HeaderText) → Same (replaced (codes "route") value hs) hs
unfolding full_name
routes-same value hs = grind (arith, among-replaced, values-replaced)

-- ---- its parts

tag-same : (m : MessageText) (hs : List HeaderText) → Same hs m.headers → own_tag (with_headers m hs) ≡ own_tag m
unfolding own_tag
tag-same m hs same = grind arith

to-same : (status : OwnStatus) (m : MessageText) (hs : List HeaderText) → Same hs m.headers → to_lines status (with_headers m hs) ≡ to_lines status m
to-same status m hs same = grind (arith, tag-same)

response-same : (status : OwnStatus) (m : MessageText) (further hs : List HeaderText) → Same hs m.headers → generated_of (with_headers m hs) status further ≡ generated_of m status further
response-same status m further hs same = grind (arith, to-same)

timestamps-same : (m : MessageText) (hs : List HeaderText) → Same hs m.headers → timestamp_lines (with_headers m hs) ≡ timestamp_lines m
timestamps-same m hs same = ap (λ (ls : List HeaderText). take 1 ls) same.stamp

-- ---- without the Route value

-- what is made of these lines alone
abbrev Depends : {X : Type 0} → (List HeaderText → X) → List HeaderText → Type 0
Depends made hs = (ks : List HeaderText) → Same ks hs → made ks ≡ made hs

by_cut : {X : Type 0} (made : List HeaderText → X) (hs : List HeaderText) (proxy : Own) (c : List ℕ × Option (List ℕ)) → Depends made hs → made (without_first proxy hs c) ≡ made hs
by_cut made hs proxy (value, others) kept =
    cond_both (names_own proxy value) (replaced route_name (option_map trim others) hs) hs (λ (ks : List HeaderText). made ks ≡ made hs)
    (λ e. kept (replaced route_name (option_map trim others) hs) (routes-same (option_map trim others) hs))
    (λ e. refl)

by_first : {X : Type 0} (made : List HeaderText → X) (hs : List HeaderText) (proxy : Own) (first : Option (List ℕ)) → Depends made hs → made (stripped_at proxy hs first) ≡ made hs
by_first made hs proxy None kept = refl
by_first made hs proxy (Some value) kept = by_cut made hs proxy (cut_outside QuotesAndAngles 44 Plain value) kept

pub stripped-same : (m : MessageText) (proxy : Own) (status : OwnStatus) (further : List HeaderText) → generated_of (stripped m proxy) status further ≡ generated_of m status further
stripped-same m proxy status further =
    by_first (λ (hs : List HeaderText). generated_of (with_headers m hs) status further) m.headers proxy (first_value route_name m.headers) (λ hs same. response-same status m further hs same)

pub stripped-timestamps : (m : MessageText) (proxy : Own) → timestamp_lines (stripped m proxy) ≡ timestamp_lines m
stripped-timestamps m proxy =
    by_first (λ (hs : List HeaderText). timestamp_lines (with_headers m hs)) m.headers proxy (first_value route_name m.headers) (λ hs same. timestamps-same m hs same)
