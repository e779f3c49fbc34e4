-- The parts that a call begins with are sound.
use Rattle.std.proofs.Common.{◌≡◌, ◌∙◌, List, Result, Ok, Err, ap, sym, subst}
use Rattle.std.specs.Prelude.{IfOk}
use Rattle.fork_model.specs.History.{Target}
use Rattle.fork_model.specs.Table.{Kind, Rules}
use Rattle.fork_model.specs.Log.{Log, opening_log}
use Rattle.call_model.specs.Begun.{begun}
use Rattle.call_model.specs.Call.{Call}
use Rattle.call_model.specs.OpenedRequest.{OpenedRequest, Destination, kind_of}
use Rattle.call_model.specs.Behind.{BegunKeepsAnswers, KeepsAnswers}
use Rattle.call_model.specs.Sound.{BegunIsSound, IsSound}

pub begins_sound : {E : Type 0} → BegunIsSound → (r : Result Call E) (opened : OpenedRequest) (rules : Rules) (targets : List Target) (destinations : List Destination) (log : Log) (kind : Kind)
    → IfOk r (λ call. call ≡ begun opened log destinations) → log ≡ opening_log kind rules targets → kind ≡ kind_of opened → IfOk r IsSound
begins_sound law (Err fault) opened rules targets destinations log kind e p q = tt
begins_sound law (Ok call) opened rules targets destinations log kind e p q =
    let whole : log ≡ opening_log (kind_of opened) rules targets = p ∙ ap (λ (k : Kind). opening_log k rules targets) q in
    let same : call ≡ begun opened (opening_log (kind_of opened) rules targets) destinations = e ∙ ap (λ (l : Log). begun opened l destinations) whole in
    subst IsSound (sym same) (law opened rules targets destinations)

pub begins_answers : {E : Type 0} → BegunKeepsAnswers → (r : Result Call E) (opened : OpenedRequest) (rules : Rules) (targets : List Target) (destinations : List Destination) (log : Log) (kind : Kind)
    → IfOk r (λ call. call ≡ begun opened log destinations) → log ≡ opening_log kind rules targets → kind ≡ kind_of opened → IfOk r KeepsAnswers
begins_answers law (Err fault) opened rules targets destinations log kind e p q = tt
begins_answers law (Ok call) opened rules targets destinations log kind e p q =
    let whole : log ≡ opening_log (kind_of opened) rules targets = p ∙ ap (λ (k : Kind). opening_log k rules targets) q in
    let same : call ≡ begun opened (opening_log (kind_of opened) rules targets) destinations = e ∙ ap (λ (l : Log). begun opened l destinations) whole in
    let P : Call → Type 0 = λ c. KeepsAnswers c in
    subst P (sym same) (law opened rules targets destinations)
