-- A thread may be given what each address has spent, and what a lock holds threads may share.
use denote.RattleType.{RattleType}
use denote.Param.Send.{Frees, IsSend}
use Rattle.std.specs.declared.alloc.Allocator as allocator
use Rattle.service_admission.proofs.limits.SourceLimits.TheSendSync as made
use Rattle.service_admission.specs.contracts.limits.SourceLimits as limits
use denote.Param.Send.{IsSend}
use Rattle.service_admission.proofs.places.CallQuota.TheSendSync as made_places
use Rattle.service_admission.specs.contracts.places.CallQuota as places
use denote.Struct.Declared.{shape}
use denote.Param.Send.{IsSync, sendable, struct_sync}
use Rattle.std.proofs.Crossing.{crosses}
use Rattle.service_admission.specs.contracts.quota.Quota as quota

pub limits_send : (A : RattleType) (g : allocator.Ghosts A.Denot) → IsSend A → Frees g g.dealloc_token → IsSend (limits.the_row A g)
limits_send A g = made.the_send A g

pub places_send : IsSend places.the_row
places_send = made_places.the_send

pub quota_sync : IsSync quota.the_field.row
quota_sync = struct_sync (shape quota.the_type) (search (crosses, made_places.the_send), (search (crosses, sendable), (search (crosses, sendable), tt)))
