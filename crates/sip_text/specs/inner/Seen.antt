-- What lies in memory, as texts.
-- Here: what no public contract reaches.
use Rattle.std.specs.Prelude.{Option, Some, None}
use Rattle.sip_text.specs.declared.parts.CSeqLine.{CSeqLine}
use Rattle.sip_text.specs.Fields.{CSeqText}
use Rattle.sip_text.specs.Seen.{view_cseq}

abbrev pub seen_cseq : Option CSeqLine → Option CSeqText
seen_cseq None = None
seen_cseq (Some c) = Some (view_cseq c)
