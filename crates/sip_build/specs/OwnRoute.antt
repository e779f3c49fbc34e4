-- The URI by which a proxy stays on the path of a dialog (RFC 3261 sections 16.6 step 4 and 20.30).
use Rattle.std.specs.Prelude.{ℕ, List, ◌∷◌, ◌++◌, codes}
use Rattle.std.specs.Fmt.{decimal}
use Rattle.sip_via.specs.Address.{address_text}
use Rattle.sip_via.specs.declared.own.Own.{Own}

-- the proxy's own URI, with `lr`, in angle brackets
abbrev pub own_route : Own → List ℕ
own_route own = codes "<sip:" ++ (address_text own.addr ++ (58 ∷ (decimal own.port ++ codes ";lr>")))
