-- A text is an address where four numbers with dots between them can be taken from its front.
use Rattle.sip_via.proofs.Common.{◌≡◌, ℕ, Bool, true, List, [], ◌∷◌, ◌++◌, Option, Some, ◌∙◌, append_assoc, decimal, bytes_eq, cases_Bool, cond-true, cond-false, append-nil, take-append-drop, bytes_eq-Decides, address_text, dotted, behind_address}
use Rattle.sip_via.proofs.Common.{behind_marked, is_end, behind_text, common_steps, arith, rules}
use Rattle.sip_via.specs.inner.Fronts.{is_address}

abbrev some : List ℕ → Option (List ℕ)
some text = Some text

some_is : (x y : List ℕ) → some x ≡ some y → x ≡ y
some_is x y e = cc

-- ---- a text at the front

pub front_found : (front text rest : List ℕ) → behind_text front text ≡ Some rest → text ≡ front ++ rest
front_found front text rest e = grind (arith, common_steps, cases_Bool, bytes_eq-Decides, some_is, cond-true, take-append-drop, cond-false)

pub front_again : (front rest : List ℕ) → behind_text front (front ++ rest) ≡ Some rest
front_again front rest = grind (arith, common_steps, bytes_eq-Decides)

-- ---- a mark and a number at the front

pub record IsBehindMarked (mark n : ℕ) (text : Option (List ℕ)) (rest : List ℕ) : Type 0 where
  pub whole : List ℕ
  pub there : text ≡ Some whole
  pub joins : whole ≡ (mark ∷ decimal n) ++ rest

pub marked_found : (mark n : ℕ) (text : Option (List ℕ)) (rest : List ℕ) → behind_marked mark n text ≡ Some rest → IsBehindMarked mark n text rest
marked_found mark n text rest e = grind (arith, front_found)

pub dotted_again : (n : ℕ) (rest : List ℕ) → behind_marked 46 n (Some (dotted n ++ rest)) ≡ Some rest
dotted_again n rest = front_again (decimal n) rest

end_found : (o : Option (List ℕ)) → is_end o ≡ true → o ≡ Some []
end_found o e = grind arith

-- ---- an address

pub address_front : (addr text rest : List ℕ) → behind_address addr text ≡ Some rest → text ≡ address_text addr ++ rest
address_front addr text rest e = search (rules, marked_found, front_found, append_assoc)

pub address_found : (addr text : List ℕ) → is_address addr text ≡ true → text ≡ address_text addr
address_found addr text e = address_front addr text [] (end_found (behind_address addr text) e) ∙ append-nil (address_text addr)

same_tests : (p q : Bool) → (p ≡ true → q ≡ true) → (q ≡ true → p ≡ true) → p ≡ q
same_tests p q f g = grind arith

pub address_is : (addr text : List ℕ) → is_address addr text ≡ bytes_eq text (address_text addr)
address_is addr text = grind (arith, common_steps, bytes_eq-Decides, address_found)

-- what stands behind an address is found there
pub address_rest : (addr rest : List ℕ) → behind_address addr (address_text addr ++ rest) ≡ Some rest
address_rest addr rest = grind (arith, append_assoc, front_again, dotted_again)

-- ---- a colon and a port

pub port_found : (text : List ℕ) (port : ℕ) (rest : List ℕ) → behind_marked 58 port (Some text) ≡ Some rest → text ≡ 58 ∷ (decimal port ++ rest)
port_found text port rest e = grind (arith, common_steps, marked_found 58 port (Some text) rest e, some_is)
