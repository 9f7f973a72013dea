-- What is found of a changed election is found of the election as it is read.
use Rattle.std.proofs.Common.{◌≡◌, ◌∙◌, ◌<◌, ◌-◌, ◌*◌, ℕ, Ok, Err, Result, ap, get_or, inl, inr, length, min, subst, sym}
use Rattle.std.specs.Prelude.{IfOk}
use Rattle.std.proofs.lemmas.List.{get_or-map, length-map}
use Rattle.pb_core.specs.Election.{ElectionView, ProjectView, VoterView, most_voters}
use Rattle.pb_core.specs.Money.{largest_money}
use Rattle.pb_core.specs.declared.no_memory.NoMemory.{NoMemory}
use Rattle.pb_price.specs.Supporters.{cost_at, support_of}
use Rattle.pb_reasons.specs.WhatIf.{IsFound, IsWhatIf, Says, Seen, seen}
use Rattle.pb_reasons.specs.Inner.Doubling.{NoneWins}
use Rattle.pb_reasons.specs.declared.changes.change.Change.TheVariants.{Cost, Voters}
use Rattle.pb_reasons.specs.declared.changes.change.Verdict.TheVariants.{Lost, Won}
use Rattle.pb_reasons.specs.declared.changes.found.WhatIf.{WhatIf}
use Rattle.pb_reasons.specs.declared.changes.question.Question.{Question}

pub cost_read : (e : ElectionView) (place : ℕ) (p : ProjectView) → place < length e.projects → p ≡ get_or e.projects place p → p.cost ≡ cost_at (support_of e) place
cost_read e place p known is = ap (λ (r : ProjectView). r.cost) is ∙ sym (get_or-map (λ (r : ProjectView). r.cost) e.projects place p 0 known)

pub won_found : (e : ElectionView) (q : Question) (s : Seen) (cost own : ℕ) (r : Result WhatIf NoMemory) → s ≡ seen e → cost ≡ own → Says e q Won
    → IfOk r (λ w. IsFound s q Cost cost (min (10 * cost) largest_money) w.cost.first w.cost.second)
    → IfOk r (λ w. IsFound s q Voters 0 0 w.voters.first w.voters.second) → IfOk r (IsWhatIf e q own)
won_found e q s cost own (Err fault) read is says costs voters = tt
won_found e q s cost own (Ok w) read is says costs voters =
    inl (
      says,
      subst (λ (n : ℕ). IsFound (seen e) q Cost n (min (10 * n) largest_money) w.cost.first w.cost.second) is
          (subst (λ (t : Seen). IsFound t q Cost cost (min (10 * cost) largest_money) w.cost.first w.cost.second) read costs),
      subst (λ (t : Seen). IsFound t q Voters 0 0 w.voters.first w.voters.second) read voters,
    )

pub lost_found : (e : ElectionView) (q : Question) (s : Seen) (cost own : ℕ) (r : Result WhatIf NoMemory) → s ≡ seen e → cost ≡ own → Says e q Lost
    → IfOk r (λ w. IsFound s q Cost 1 cost w.cost.first w.cost.second)
    → IfOk r (λ w. IsFound s q Voters 0 (min (length s.ballots) (most_voters - length s.ballots)) w.voters.first w.voters.second)
    → IfOk r (λ w. NoneWins s q w.voters.second.value) → IfOk r (IsWhatIf e q own)
lost_found e q s cost own (Err fault) read is says costs voters doubled = tt
lost_found e q s cost own (Ok w) read is says costs voters doubled =
    inr (
      says,
      subst (λ (n : ℕ). IsFound (seen e) q Cost 1 n w.cost.first w.cost.second) is
          (subst (λ (t : Seen). IsFound t q Cost 1 cost w.cost.first w.cost.second) read costs),
      subst (λ (n : ℕ). IsFound (seen e) q Voters 0 (min n (most_voters - n)) w.voters.first w.voters.second) (length-map e.voters (λ (v : VoterView). v.ballot))
          (subst (λ (t : Seen). IsFound t q Voters 0 (min (length t.ballots) (most_voters - length t.ballots)) w.voters.first w.voters.second) read voters),
      subst (λ (t : Seen). NoneWins t q w.voters.second.value) read doubled,
    )
