-- What is read, once, of the top Via value of a request that came from there (RFC 3261 sections 8.1.1.7, 18.2.1 and 18.2.2).
use Rattle.std.specs.Prelude.{◌≡◌, ℕ, Bool, true, false, List, length, take, Option, Some, None, Ok}
use Rattle.std.specs.Str.{bytes_eq}
use Rattle.sip_text.specs.Text.{MessageText}
use Rattle.sip_uri.specs.declared.hop.Hop.{Hop}
use Rattle.sip_branch.specs.BranchText.{cookie}
use Rattle.sip_via.specs.Received.{marked, reply_of, with_via_line}
use Rattle.sip_via.specs.TopVia.{top_value}
use Rattle.sip_via.specs.ViaParts.{branch_of, is_via, or_empty, via_of}

pub record ReadTop : Type 0 where
  -- the first Via line with the source in it
  pub line : List ℕ
  -- where the response goes
  pub reply : Hop
  -- whether the branch begins as RFC 3261 has it
  pub cookie : Bool

abbrev pub begins_with_cookie : Option (List ℕ) → Bool
begins_with_cookie branch = bytes_eq (take (length cookie) (or_empty branch)) cookie

-- it is read of this message
pub record IsReadTop (m : MessageText) (source : Hop) (top : ReadTop) : Type 0 where
  pub reads : is_via (top_value m) ≡ true
  pub line : marked m source ≡ Ok (with_via_line m top.line)
  pub reply : (with_source : MessageText) → marked m source ≡ Ok with_source → top.reply ≡ reply_of (via_of (top_value with_source)) source
  pub cookie : top.cookie ≡ begins_with_cookie (branch_of (via_of (top_value m)))

-- nothing is read of a value that is none
abbrev pub IsTopOf : MessageText → Hop → Option ReadTop → Type 0
IsTopOf m source None = is_via (top_value m) ≡ false
IsTopOf m source (Some top) = IsReadTop m source top

-- where the response goes: back to where the request came from, where the value cannot be read
abbrev pub reply_if_read : Option ReadTop → Hop → Hop
reply_if_read None source = source
reply_if_read (Some top) source = top.reply

abbrev pub has_cookie : Option ReadTop → Bool
has_cookie None = false
has_cookie (Some top) = top.cookie
