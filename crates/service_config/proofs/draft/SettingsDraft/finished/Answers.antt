use Rattle.service_config.proofs.Common.{◌≡◌, ℕ, Bool, true, false, List, [], ◌∷◌, Result, Ok, Err, ap, arith, cond, is_whole, length, refl}
use Rattle.std.proofs.Common.{eqb}
use Rattle.service_config.specs.Configuration.{Draft}
use Rattle.service_config.specs.Settings.{Settings}
use Rattle.service_config.specs.inner.Reading.{finished}
use Rattle.service_config.proofs.Sound.{kept}
use Rattle.service_config.proofs.draft.SettingsDraft.finished.Goals as goal
use Rattle.service_config.proofs.draft.SettingsDraft.finished.Goals.{then-not-is_empty-via-then-not-is_empty, then-not-is_empty-via-else-not-is_empty+then-not-is_whole}

-- something stands behind the last LF
not_empty : (number : ℕ) (draft : Draft) (rest : List ℕ) → eqb (length rest) 0 ≡ false → finished number draft rest ≡ Err number
not_empty number draft [] e = let wrong : true ≡ false = e in absurd cc
not_empty number draft (b ∷ bs) e = refl

-- a line is missing
not_whole : (number : ℕ) (draft : Draft) (rest : List ℕ) → is_whole draft.last ≡ false → finished number draft rest ≡ Err number
not_whole number draft [] e = ap (λ (b : Bool). cond {A = Result Settings ℕ} b (Ok draft.settings) (Err number)) e
not_whole number draft (b ∷ bs) e = refl

pub into_settings-requires : goal.into_settings-requires
into_settings-requires g c =
    let whole : is_whole c.args.self.last ≡ true = grind (arith, c.is_whole.ensures, c.if-not-is_whole.false) in
    kept c.args.self c.requires whole

pub returns-then-not-is_empty : goal.returns-then-not-is_empty
returns-then-not-is_empty g c =
    elim c.then-not-is_empty.branch [
      | then-not-is_empty-via-then-not-is_empty w ↦
          let empty : eqb (length c.args.rest.now) 0 ≡ false = grind (arith, c.is_empty.ensures, w.if-not-is_empty.true) in
          not_empty c.args.number c.args.self c.args.rest.now empty
      | then-not-is_empty-via-else-not-is_empty+then-not-is_whole w ↦
          let missing : is_whole c.args.self.last ≡ false = grind (arith, w.is_whole.ensures, w.if-not-is_whole.true) in
          not_whole c.args.number c.args.self c.args.rest.now missing
    ]
