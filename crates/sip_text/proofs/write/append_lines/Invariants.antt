use Rattle.sip_text.proofs.Common.{◌≡◌, ◌≤◌, ◌++◌, flat_map, header_text, view_lines, views}
use Rattle.sip_text.proofs.write.append_lines.Given as goal

abbrev pub invariant-loop-header : goal.invariant-loop-header
invariant-loop-header g l = record {
  items : l.out.items ≡ l.fn.out.items ++ flat_map header_text (view_lines l.yielded);
  split : views l.headers ≡ view_lines l.yielded ++ views l.header-iterator;
  capacity : l.fn.out.cap ≤ l.out.cap;
}
