use Rattle.proxy_config.proofs.Common.{◌≡◌, ◌∙◌, ℕ, Bool, List, [], ◌∷◌, Result, Ok, Err, Draft, Setup, ap, arith, cond, finished_draft, is_whole, length, subst, sym, refl, false, true}
use Rattle.std.proofs.Common.{eqb}
use Rattle.std.proofs.lemmas.Bool.{eqb-true, false≢true}
use Rattle.proxy_config.specs.Setup.{IsKeptWith}
use Rattle.proxy_config.proofs.draft.SetupDraft.finished.Goals as goal
use Rattle.proxy_config.proofs.draft.SetupDraft.finished.Goals.{then-not-is_empty-via-then-not-is_empty, then-not-is_empty-via-else-not-is_empty+then-not-is_whole}

finished_is : (number : ℕ) (draft : Draft) (rest : List ℕ) (s : Setup) → eqb (length rest) 0 ≡ true → is_whole draft.phase ≡ true → s ≡ draft.setup → finished_draft number draft rest ≡ Ok s
finished_is number draft [] s empty whole same = ap (λ (b : Bool). cond {A = Result Setup ℕ} b (Ok draft.setup) (Err number)) whole ∙ ap Ok (sym same)
finished_is number draft (b ∷ bs) s empty whole same = absurd (omega (arith, eqb-true (length (b ∷ bs)) 0 empty))

-- something stands behind the last line
more_is : (number : ℕ) (draft : Draft) (rest : List ℕ) → eqb (length rest) 0 ≡ false → finished_draft number draft rest ≡ Err number
more_is number draft [] more = absurd (false≢true (sym more))
more_is number draft (b ∷ bs) more = refl

-- or a line is missing
lack_is : (number : ℕ) (draft : Draft) (rest : List ℕ) → is_whole draft.phase ≡ false → finished_draft number draft rest ≡ Err number
lack_is number draft [] lack = ap (λ (b : Bool). cond {A = Result Setup ℕ} b (Ok draft.setup) (Err number)) lack
lack_is number draft (b ∷ bs) lack = refl

pub into_setup-requires : goal.into_setup-requires
into_setup-requires g c =
    let whole : is_whole c.args.self.phase ≡ true = grind (arith, c.is_whole.ensures, c.if-not-is_whole.false) in
    let same : c.self.inside.parts ≡ c.args.self.setup = λ k. (c.self.view_is k).setup in
    let P : Setup → Type 0 = λ s. IsKeptWith s.streams s.own s.domain s.locations in
    subst P (sym same) (c.requires whole)

pub returns : goal.returns
returns g c =
    let empty : eqb (length c.args.rest.now) 0 ≡ true = grind (arith, c.is_empty.ensures, c.if-not-is_empty.false) in
    let whole : is_whole c.args.self.phase ≡ true = grind (arith, c.is_whole.ensures, c.if-not-is_whole.false) in
    let same : c.into_setup.result ≡ c.args.self.setup = c.into_setup.ensures ∙ (λ k. (c.self.view_is k).setup) in
    finished_is c.args.number c.args.self c.args.rest.now c.into_setup.result empty whole same

pub returns-then-not-is_empty : goal.returns-then-not-is_empty
returns-then-not-is_empty g c =
    elim c.then-not-is_empty.branch [
      | then-not-is_empty-via-then-not-is_empty w ↦
          let more : eqb (length c.args.rest.now) 0 ≡ false = grind (arith, c.is_empty.ensures, w.if-not-is_empty.true) in
          more_is c.args.number c.args.self c.args.rest.now more
      | then-not-is_empty-via-else-not-is_empty+then-not-is_whole w ↦
          let lack : is_whole c.args.self.phase ≡ false = grind (arith, w.is_whole.ensures, w.if-not-is_whole.true) in
          lack_is c.args.number c.args.self c.args.rest.now lack
    ]
