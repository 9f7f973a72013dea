use Rattle.std.proofs.Common.{◌≡◌, ◌∙◌, ℕ, ◌-◌, ◌≤◌, List, length, take, drop, ap, arith, rules}
use Rattle.std.proofs.lemmas.List.{length-take}
use Rattle.pb_serving.proofs.Handing.{handed}
use Rattle.pb_serving.proofs.paced.Paced.hand_out.Goals as goal

pub returns-clause-bytes : goal.returns-clause-bytes
returns-clause-bytes g c =
    let paced = c.args.self.now in
    let n = c.min-count.result in
    let ordered = paced.ordered in
    let within = paced.in_range in
    let few : n ≤ paced.end - paced.start = search rules in
    let new_is : c.copy_from_slice.new.self ≡ take n (take (paced.end - paced.start) (drop paced.start paced.chunk.items)) =
    c.copy_from_slice.ensures.after ∙ ap (λ (l : List ℕ). take n l) c.rest-rest.ensures in
    handed paced.chunk.items c.copy_from_slice.new.self (drop n c.args.buf.now) paced.start paced.end n ordered within few new_is

pub invariant_of-self : goal.invariant_of-self
invariant_of-self g c =
    let paced = c.args.self.now in
    let ordered = paced.ordered in
    let size = ap length c.rest-rest.ensures ∙ length-take (paced.end - paced.start) (drop paced.start paced.chunk.items) in
    record { ordered = omega (arith, size, ordered); in_range = paced.in_range; some = paced.some }
