-- What a crash leaves while a run answers.
use Rattle.std.proofs.Common.{◌≡◌, ◌∙◌, ◌≤◌, ℕ, List, [], ◌++◌, inl, inr, sym, ap, subst, append_assoc}
use Rattle.std.proofs.lemmas.List.{append-nil}
use Rattle.pb_core.specs.Request.{EntryView}
use Rattle.pb_desk.specs.Opening.{OpeningView}
use Rattle.pb_desk.specs.Rows.{journal_text}
use Rattle.pb_desk.specs.declared.version.Version.{Version}
use Rattle.pb_durable.proofs.Durable.{stays}
use Rattle.pb_durable.proofs.Moments.{started, then_runs}
use Rattle.pb_durable.specs.Device.{LeavesOnly}
use Rattle.pb_durable.specs.DurableDesk.{IsDurable}
use Rattle.pb_durable.specs.Inner.Either.{StandsForEither}
use Rattle.pb_durable.specs.JournalFile.{StandsForText}
use Rattle.pb_durable.specs.declared.durable_desk.DurableDesk.{DurableDesk}
use Rattle.pb_serving.specs.Answered.{StandsWithin}

-- the file stands for a journal between two
within : (version : Version) (first journal last more rest : List EntryView) (c : List ℕ) → journal ≡ first ++ more → last ≡ journal ++ rest → StandsForText (journal_text version journal) c
    → StandsWithin version first last c
within version first journal last more rest c begins ends stands =
    (more, rest, subst (λ (j : List EntryView). StandsForText (journal_text version j) c) begins stands, ends ∙ ap (λ (j : List EntryView). j ++ rest) begins)

-- or for one of two
within_either : (version : Version) (first journal last more rest : List EntryView) (c : List ℕ) → journal ≡ first ++ more → last ≡ journal ++ rest
    → StandsForEither (journal_text version journal) (journal_text version last) c → StandsWithin version first last c
within_either version first journal last more rest c begins ends (inl stands) = within version first journal last more rest c begins ends stands
within_either version first journal last more rest c begins ends (inr stands) =
    within version first last last (more ++ rest) [] c (ends ∙ ap (λ (j : List EntryView). j ++ rest) begins ∙ append_assoc first more rest) (sym (append-nil last)) stands

-- more entries come
within_more : (version : Version) (first last after rest : List EntryView) (c : List ℕ) → after ≡ last ++ rest → StandsWithin version first last c → StandsWithin version first after c
within_more version first last after rest c grown w =
    (w.0, w.1 ++ rest, w.2, grown ∙ ap (λ (j : List EntryView). j ++ rest) w.3 ∙ append_assoc (first ++ w.0) w.1 rest)

module _ {D : Type 0} (moment : D → ℕ) (left_since : D → ℕ → List ℕ → Type 0) (seen : D → List ℕ) (may_leave : D → List ℕ → Type 0) where
  -- a desk at rest stands
  pub kept_all : (d : DurableDesk D) → IsDurable seen may_leave d → (c : List ℕ) → may_leave d.file.device c
      → StandsWithin d.desk.opening.version d.desk.journal d.desk.journal c
  kept_all d was c left =
      within d.desk.opening.version d.desk.journal d.desk.journal d.desk.journal [] [] c (sym (append-nil d.desk.journal)) (sym (append-nil d.desk.journal))
      (stays seen may_leave d.file _ was.settled was.written c left)

  -- before the first answer
  pub begins : ((d : D) (c : List ℕ) → left_since d (moment d) c → may_leave d c) → (d : DurableDesk D) → IsDurable seen may_leave d
      → LeavesOnly moment left_since d.file.device d.file.device (StandsWithin d.desk.opening.version d.desk.journal d.desk.journal)
  begins only_now d was = started moment left_since d.file.device _ (λ f left. kept_all d was f (only_now d.file.device f left))

  -- entries were added, or are being added
  pub goes_on : (old mid new : DurableDesk D) (more rest : List EntryView) → mid.desk.opening ≡ old.desk.opening → mid.desk.journal ≡ old.desk.journal ++ more
      → new.desk.journal ≡ mid.desk.journal ++ rest
      → LeavesOnly moment left_since old.file.device mid.file.device (StandsWithin old.desk.opening.version old.desk.journal mid.desk.journal)
      → LeavesOnly moment left_since mid.file.device new.file.device
      (StandsForEither (journal_text mid.desk.opening.version mid.desk.journal) (journal_text mid.desk.opening.version new.desk.journal))
      → LeavesOnly moment left_since old.file.device new.file.device (StandsWithin old.desk.opening.version old.desk.journal new.desk.journal)
  goes_on old mid new more rest opening grown added first second =
      then_runs moment left_since old.file.device mid.file.device new.file.device _ _ (StandsWithin old.desk.opening.version old.desk.journal new.desk.journal) first second
      (λ f w. within_more old.desk.opening.version old.desk.journal mid.desk.journal new.desk.journal rest f added w)
      (λ f either. within_either old.desk.opening.version old.desk.journal mid.desk.journal new.desk.journal more rest f grown added
      (subst (λ (o : OpeningView). StandsForEither (journal_text o.version mid.desk.journal) (journal_text o.version new.desk.journal) f) opening either))

  -- what a crash leaves now, after entries were to be added
  pub kept_first : ((d : D) (t : ℕ) (c : List ℕ) → t ≤ moment d → may_leave d c → left_since d t c) → (mid new : DurableDesk D) (rest : List EntryView) → new.desk.opening ≡ mid.desk.opening
      → new.desk.journal ≡ mid.desk.journal ++ rest
      → LeavesOnly moment left_since mid.file.device new.file.device
      (StandsForEither (journal_text mid.desk.opening.version mid.desk.journal) (journal_text mid.desk.opening.version new.desk.journal))
      → (c : List ℕ) → may_leave new.file.device c → StandsWithin new.desk.opening.version mid.desk.journal new.desk.journal c
  kept_first counts_now mid new rest opening added run c left =
      subst (λ (o : OpeningView). StandsWithin o.version mid.desk.journal new.desk.journal c) (sym opening)
      (within_either mid.desk.opening.version mid.desk.journal mid.desk.journal new.desk.journal [] rest c (sym (append-nil mid.desk.journal)) added
      (run.each c (counts_now new.file.device (moment mid.file.device) c run.elapses.later left)))

  -- the gate is cut off, or was to be
  pub closes : (old mid : DurableDesk D) (new : D) (more : List EntryView) → mid.desk.opening ≡ old.desk.opening → mid.desk.journal ≡ old.desk.journal ++ more
      → LeavesOnly moment left_since old.file.device mid.file.device (StandsWithin old.desk.opening.version old.desk.journal mid.desk.journal)
      → LeavesOnly moment left_since mid.file.device new (StandsForText (journal_text mid.desk.opening.version mid.desk.journal))
      → LeavesOnly moment left_since old.file.device new (StandsWithin old.desk.opening.version old.desk.journal mid.desk.journal)
  closes old mid new more opening grown first second =
      then_runs moment left_since old.file.device mid.file.device new _ _ (StandsWithin old.desk.opening.version old.desk.journal mid.desk.journal) first second (λ f w. w)
      (λ f stands. within old.desk.opening.version old.desk.journal mid.desk.journal mid.desk.journal more [] f grown (sym (append-nil mid.desk.journal))
      (subst (λ (o : OpeningView). StandsForText (journal_text o.version mid.desk.journal) f) opening stands))

  pub kept_closing : ((d : D) (t : ℕ) (c : List ℕ) → t ≤ moment d → may_leave d c → left_since d t c) → (mid : DurableDesk D) (new : D)
      → LeavesOnly moment left_since mid.file.device new (StandsForText (journal_text mid.desk.opening.version mid.desk.journal))
      → (c : List ℕ) → may_leave new c → StandsWithin mid.desk.opening.version mid.desk.journal mid.desk.journal c
  kept_closing counts_now mid new run c left =
      within mid.desk.opening.version mid.desk.journal mid.desk.journal mid.desk.journal [] [] c (sym (append-nil mid.desk.journal)) (sym (append-nil mid.desk.journal))
      (run.each c (counts_now new (moment mid.file.device) c run.elapses.later left))
