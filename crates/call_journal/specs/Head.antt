-- The line of a journal that says which call it was: words with one space between them.
use Rattle.std.specs.Prelude.{ℕ, ◌&&◌, nat_lt, List, ◌++◌, codes, map, take, if◌then◌else◌}
use Rattle.std.specs.Fmt.{decimal}
use Rattle.call_journal.specs.declared.head.CallRecord.{CallRecord}

-- what is no visible ASCII is a dot
abbrev pub shown_byte : ℕ → ℕ
shown_byte b = if nat_lt 32 b && nat_lt b 127 then b else 46

-- of a text of the caller's at most 256 bytes
abbrev pub shown : List ℕ → List ℕ
shown text = map shown_byte (take 256 text)

-- when it ended, and its number
abbrev pub front_text : CallRecord → List ℕ
front_text h = codes "call " ++ (decimal h.time ++ (codes " " ++ (decimal h.number ++ codes " ")))

-- the method and the Request-URI
abbrev pub asked_text : CallRecord → List ℕ
asked_text h = shown h.method.now ++ (codes " " ++ shown h.uri.now)

-- who called, and the Call-ID
abbrev pub caller_text : CallRecord → List ℕ
caller_text h = codes " from " ++ (shown h.caller.now ++ (codes " call-id " ++ shown h.call_id.now))

abbrev pub head_text : CallRecord → List ℕ
head_text h = front_text h ++ (asked_text h ++ caller_text h)
