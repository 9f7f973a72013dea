use Rattle.std.proofs.Common.{◌≡◌, ◌∙◌, ℕ, ◌-◌, ◌<◌, [], length, take, drop, refl, ap, sym, subst, arith}
use Rattle.pb_serving.specs.Inner.AtHand.{read_ahead}
use Rattle.pb_serving.proofs.Handing.{read_failed, refilled}
use Rattle.pb_serving.proofs.paced.handing.PacedRead.read.Goals as goal

pub returns-in_err-end-clause-bytes : goal.returns-in_err-end-clause-bytes
returns-in_err-end-clause-bytes g c =
    let paced = c.args.self.now in
    let none : paced.end - paced.start ≡ 0 = omega (arith, c.if-self.true) in
    let nothing : read_ahead paced ≡ [] = ap (λ (k : ℕ). take k (drop paced.start paced.chunk.items)) none in
    read_failed c.from_residual.result c.in_err-end.field-0.0 (read_ahead paced) [] c.args.buf.now (g.P.Read.remaining paced.reader) (g.P.Read.remaining c.read.new.self)
    c.from_residual.ensures.1 nothing refl c.in_err-end.ensures.bytes

pub invariant_of-self : goal.invariant_of-self
invariant_of-self g c =
    let paced = c.args.self.now in
    let size = refilled paced.chunk.items c.read.new.buf paced.chunk.len paced.chunk.ok.0 (c.read.auto.buf ∙ ap length c.deref_mut.ensures.value) in
    record { ordered = omega arith; in_range = omega arith; some = subst (λ (n : ℕ). 0 < n) (sym size) paced.some }

pub invariant_of-self-then-self : goal.invariant_of-self-then-self
invariant_of-self-then-self g c =
    let paced = c.args.self.now in
    let same = c.read.auto.buf ∙ ap length c.deref_mut.ensures.value in
    let size = refilled paced.chunk.items c.read.new.buf paced.chunk.len paced.chunk.ok.0 same in
    let bound = c.in_ok-end.ensures.bound in
    record { ordered = omega arith; in_range = omega (arith, size, same, bound.0); some = subst (λ (n : ℕ). 0 < n) (sym size) paced.some }
