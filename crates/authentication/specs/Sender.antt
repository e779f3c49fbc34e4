-- Whom a request claims to come from (RFC 3261 section 20.20, RFC 3323 section 4.1).
use Rattle.std.specs.Prelude.{ℕ, Bool, true, false, ◌||◌, List, Option, Some, None}
use Rattle.std.specs.Str.{bytes_eq}
use Rattle.sip_uri.specs.Uri.{Uri}
use Rattle.authentication.specs.declared.domain.Domain.{Domain}
use Rattle.authentication.specs.Domain.{is_of_domain}
use Rattle.authentication.specs.Party.{is_anonymous}

-- its From is of the domain, or of one who does not say who he is
abbrev pub claims_domain : Domain → Option Uri → Bool
claims_domain domain None = false
claims_domain domain (Some from) = is_of_domain domain from || is_anonymous from

abbrev pub is_user : List ℕ → Option (List ℕ) → Bool
is_user name None = false
is_user name (Some user) = bytes_eq name user

-- the user of this name may send it
abbrev pub is_from : List ℕ → Option Uri → Bool
is_from name None = false
is_from name (Some from) = is_user name from.user || is_anonymous from
