use Rattle.control_socket.proofs.Parts.{kept_of_room}
use Rattle.control_socket.proofs.request.keep.Goals as goal

pub returns : goal.returns
returns c =
    kept_of_room c.args.kept.now.items c.args.bytes.now c.front.result.now c.try_extend_from_slice.new.self.items c.remaining_capacity-room.result c.try_extend_from_slice.result
    c.remaining_capacity-room.ensures c.front.ensures c.try_extend_from_slice.ensures.variant c.try_extend_from_slice.ensures.ok
