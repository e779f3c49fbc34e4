use Rattle.sip_text.proofs.Common.{◌≡◌, ◌++◌, length, flat_map, header_text, saturated, view_lines, views}
use Rattle.sip_text.proofs.write.headers_len.Given as goal

abbrev pub invariant-loop-header : goal.invariant-loop-header
invariant-loop-header l = record {
  len : l.len ≡ saturated (length (flat_map header_text (view_lines l.yielded)));
  split : views l.headers ≡ view_lines l.yielded ++ views l.header-iterator;
}
