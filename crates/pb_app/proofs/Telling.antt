-- What is told of a published page that differs.
use Rattle.std.proofs.Common.{ℕ}
use Rattle.pb_app.specs.Inner.Page.{IfDiffers}
use Rattle.pb_streams.specs.declared.run_refusal.RunRefusal.{RunRefusal}
use Rattle.pb_streams.specs.declared.run_refusal.RunRefusal.TheVariants.{Told}
use Rattle.pb_streams.specs.declared.run_refusal.End.TheVariants.{Page}

pub differs_map : (P Q : ℕ → Type 0) (refusal : RunRefusal) → ((line : ℕ) → P line → Q line) → IfDiffers refusal P → IfDiffers refusal Q
differs_map P Q (Told (Page page) words) each holds = each page.line holds
differs_map P Q other each holds = tt
