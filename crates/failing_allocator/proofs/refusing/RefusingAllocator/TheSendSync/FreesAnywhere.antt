-- A block may be freed on any thread where the inner allocator's may.
use denote.Param.Send.{Frees}
use denote.RattleType.{RattleType}
use mir.Syntax.{Dict}
use Rattle.std.specs.declared.alloc.Allocator.{Ghosts}
use Rattle.failing_allocator.specs.contracts.refusing.RefusingAllocator.TheImpl.{ghosts}

module _ (A : RattleType) (g : Ghosts A.Denot) (d e : Dict) where
  pub frees : Frees g g.dealloc_token → Frees (ghosts A g d e) (ghosts A g d e).dealloc_token
  frees f = record { frees = λ h τ p. f.frees h.inner τ p }
