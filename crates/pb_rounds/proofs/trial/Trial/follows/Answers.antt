use Rattle.std.proofs.Common.{◌≡◌, ◌*◌, ◌<◌, ◌≤◌, ◌^◌, ℕ, List, Some, None, subst, sym, ◌∙◌, ap, rules, true}
use Rattle.std.proofs.lemmas.Bool.{true≢false}
use Rattle.pb_price.specs.Price.{AreRests, PriceView}
use Rattle.pb_rounds.specs.Inner.Bounds.{HasBounds}
use Rattle.pb_rounds.specs.Key.{KeyView, is_before}
use Rattle.pb_rounds.specs.Run.{key_of, weight_of, without}
use Rattle.pb_rounds.proofs.Payers.{key_fits}
use Rattle.pb_rounds.proofs.BoundQueue.{found_at, found_known, found_price, found_weight}
use Rattle.pb_rounds.proofs.trial.Trial.follows.Goals as goal

pub next_best-requires-2-clause-bounds : goal.next_best-requires-2-clause-bounds
next_best-requires-2-clause-bounds g c =
    let b = c.requires.bounds in
    let same : c.as_slice-rests.result.now ≡ c.args.self.now.outcome.rests = search rules in
    let found = found_at b.0 c.args.supporters.now c.args.self.now.outcome.rests c.as_slice-rests.result.now b.1 same None c.args.self.now.queue.keys c.next_best.new.queue.keys
    c.in_ok-best.field-0 (Some c.in-Some.best) (c.in_ok-best.ensures b.0 b.1) c.in-Some.is b.2 in (
      b.0,
      without c.in-Some.best.place b.1,
      subst (λ (rs : List ℕ). HasBounds b.0 c.args.supporters.now rs (without c.in-Some.best.place b.1) c.next_best.new.queue.keys) (sym same) found.1,
    )

pub elect-requires-clause-known : goal.elect-requires-clause-known
elect-requires-clause-known g c =
    let b = c.requires.bounds in
    let same : c.as_slice-rests.result.now ≡ c.args.self.now.outcome.rests = search rules in
    let found = found_at b.0 c.args.supporters.now c.args.self.now.outcome.rests c.as_slice-rests.result.now b.1 same None c.args.self.now.queue.keys c.next_best.new.queue.keys
    c.in_ok-best.field-0 (Some c.in-Some.best) (c.in_ok-best.ensures b.0 b.1) c.in-Some.is b.2 in
    found_known b.0 c.args.supporters.now c.args.self.now.outcome.rests b.1 c.args.self.now.queue.keys b.2 c.in-Some.best found.0

pub elect-requires-clause-price : goal.elect-requires-clause-price
elect-requires-clause-price g c =
    let b = c.requires.bounds in
    let same : c.as_slice-rests.result.now ≡ c.args.self.now.outcome.rests = search rules in
    let found = found_at b.0 c.args.supporters.now c.args.self.now.outcome.rests c.as_slice-rests.result.now b.1 same None c.args.self.now.queue.keys c.next_best.new.queue.keys
    c.in_ok-best.field-0 (Some c.in-Some.best) (c.in_ok-best.ensures b.0 b.1) c.in-Some.is b.2 in
    found_price b.0 c.args.supporters.now c.args.self.now.outcome.rests b.1 c.args.self.now.queue.keys b.2 c.in-Some.best found.0

pub returns : goal.returns
returns g c m left b _ =
    let same : c.as_slice-rests.result.now ≡ c.args.self.now.outcome.rests = search rules in
    let found = found_at m c.args.supporters.now c.args.self.now.outcome.rests c.as_slice-rests.result.now left same None c.args.self.now.queue.keys c.next_best.new.queue.keys
    c.in_ok-best.field-0 (Some c.in-Some.best) (c.in_ok-best.ensures m left) c.in-Some.is b in
    let nobody : c.in_ok-other.other ≡ None = search rules in
    let later = found_at m c.args.supporters.now c.args.self.now.outcome.rests c.as_slice-rests.result.now (without c.in-Some.best.place left) same (Some c.new.result) c.next_best.new.queue.keys c.next_best-2.new.queue.keys
    c.in_ok-other.other None (c.in_ok-other.ensures m (without c.in-Some.best.place left)) nobody found.1 in
    let price : c.last.inside.exact ≡ c.args.last.now.exact = search rules in
    let limit : c.new.result ≡ key_of m c.args.supporters.now c.in-Some.best.place c.args.last.now.exact =
    c.new.ensures
    ∙ ap (λ n. record { price = n; weight = c.weight.result; place = c.place-2.result }) price
    ∙ ap (λ w. record { price = c.args.last.now.exact; weight = w; place = c.place-2.result })
    (c.weight.ensures.weight ∙ found_weight m c.args.supporters.now c.args.self.now.outcome.rests left c.args.self.now.queue.keys b c.in-Some.best found.0)
    ∙ ap (λ n. record { price = c.args.last.now.exact; weight = weight_of m c.args.supporters.now c.in-Some.best.place; place = n }) c.place-2.ensures in
    record {
      best = c.in-Some.best;
      is_best = found.0;
      same = search rules;
      others = λ other p listed e. subst (λ (k : KeyView). is_before k (key_of m c.args.supporters.now other p) ≡ true) limit (later.0 other p listed e);
      elects = c.in_ok-elect.ensures;
      bounds = later.1;
    }

pub new-requires-clause-payers : goal.new-requires-clause-payers
new-requires-clause-payers g c =
    let exact : c.last.inside.exact ≡ c.args.last.now.exact = search rules in
    subst (λ (p : PriceView). 1 ≤ p.payers) (sym exact) c.requires.last.some

pub new-requires-clause-fits : goal.new-requires-clause-fits
new-requires-clause-fits g c =
    let b = c.requires.bounds in
    let same : c.as_slice-rests.result.now ≡ c.args.self.now.outcome.rests = search rules in
    let found = found_at b.0 c.args.supporters.now c.args.self.now.outcome.rests c.as_slice-rests.result.now b.1 same None c.args.self.now.queue.keys c.next_best.new.queue.keys
    c.in_ok-best.field-0 (Some c.in-Some.best) (c.in_ok-best.ensures b.0 b.1) c.in-Some.is b.2 in
    let known = found_known b.0 c.args.supporters.now c.args.self.now.outcome.rests b.1 c.args.self.now.queue.keys b.2 c.in-Some.best found.0 in
    let weight = c.weight.ensures.weight ∙ found_weight b.0 c.args.supporters.now c.args.self.now.outcome.rests b.1 c.args.self.now.queue.keys b.2 c.in-Some.best found.0 in
    let exact : c.last.inside.exact ≡ c.args.last.now.exact = search rules in
    subst (λ (p : PriceView). p.payers * c.weight.result < 2 ^ 64) (sym exact)
    (subst (λ n. c.args.last.now.exact.payers * n < 2 ^ 64) (sym weight)
    (key_fits b.0 c.args.supporters.now c.requires.support c.in-Some.best.place known c.args.last.now.exact c.requires.last))

pub next_best-requires-2-clause-rests : goal.next_best-requires-2-clause-rests
next_best-requires-2-clause-rests g c =
    let same : c.as_slice-rests.result.now ≡ c.args.self.now.outcome.rests = search rules in
    subst (AreRests c.args.supporters.now.voters) (sym same) c.requires.rests

pub elect-requires-clause-rests : goal.elect-requires-clause-rests
elect-requires-clause-rests g c = c.requires.rests

pub returns-in_default : goal.returns-in_default
returns-in_default g c m left b it_follows = absurd (true≢false (sym it_follows))

pub returns-then-place-last : goal.returns-then-place-last
returns-then-place-last g c m left b it_follows = absurd (true≢false (sym it_follows))

pub returns-then-is_some : goal.returns-then-is_some
returns-then-is_some g c m left b it_follows = absurd (true≢false (sym it_follows))
