-- The journal of a script's requests can be written: each entry has the form of a journal's.
use Rattle.std.proofs.Common.{◌≡◌, ◌∙◌, ℕ, ◌<◌, ◌^◌, List, [], ◌∷◌, length, map, Bool, true, false, cond, Some, refl, sym, subst, arith}
use Rattle.std.specs.List.{AllZip, filter, find}
use Rattle.std.specs.Option.{option_map_or}
use Rattle.std.specs.Prelude.{All, ◌==◌, nat_le}
use Rattle.std.proofs.lemmas.Bool.{eq-eqb}
use Rattle.std.proofs.lemmas.List.Elements.{All-append, All-cons, All-filter, All-head, All-map, All-nil, All-tail}
use Rattle.pb_core.specs.Election.{most_voters}
use Rattle.pb_core.specs.Request.{EntryView, RequestView, Cast, Replace, Withdraw, Shut}
use Rattle.pb_core.specs.declared.answer.Answer.{Answer}
use Rattle.pb_core.specs.declared.answer.Answer.TheVariants.{Done, DeskShut, UnknownPlace, AlreadyCast, NoBallot, VoterLimit, TooLong}
use Rattle.pb_desk.specs.Opening.{OpeningView}
use Rattle.pb_desk.proofs.Replays.{entry_by_entry}
use Rattle.pb_desk.proofs.RowForms.{can_be_asked, small_place}
use Rattle.pb_desk.specs.Inner.Legal.{IsLegalFrom}
use Rattle.pb_desk.specs.Inner.RowReading.{IsAnswer}
use Rattle.pb_desk.specs.Replay.{IsLegal}
use Rattle.pb_desk.specs.Inner.Opening.{opened}
use Rattle.pb_desk.specs.Rows.{IsEntry, IsRequest, ScriptRowView}
use Rattle.pb_desk.specs.Standing.{Standing}
use Rattle.pb_desk.specs.Step.{answer_of, is_too_long, open_answer_of, places_of, step}
use Rattle.pb_desk.specs.Inner.Ballots.{has_ballot}
use Rattle.pb_rows.specs.Inner.Numbers.{AreNumbers}
use Rattle.pb_rows.specs.Reading.{Fields}
use Rattle.pb_shared.specs.Inner.Entries.{entries_by}
use Rattle.pb_script.specs.Inner.Admission.{Admits}
use Rattle.pb_script.specs.Scripts.{IsScript}
use Rattle.pb_script.specs.declared.admission.Admission.{Admission}
use Rattle.pb_script.specs.Inner.Script.{AreAsked}
use Rattle.pb_shared.specs.Clerk.{AreClerks}
use Rattle.pb_script.specs.Inner.Serving.{ServesAll, ServesScript, ShutAtEnd, requests_of}

cond_answer : (test : Bool) (a b : Answer) → IsAnswer a → IsAnswer b → IsAnswer (cond test a b)
cond_answer true a b is other = is
cond_answer false a b is other = other

-- the first place that a test finds among numbers is one
found_place : (test : ℕ → Bool) (places : List ℕ) (otherwise : Answer) → AreNumbers places → IsAnswer otherwise → IsAnswer (option_map_or UnknownPlace (find test places) otherwise)
found_place test [] otherwise are is = is
found_place test (p ∷ ps) otherwise are is = by (test p) (found_place test ps otherwise (All-tail (λ q. q < 2 ^ 32) p ps are) is)
  where
    by : (b : Bool) → IsAnswer (option_map_or UnknownPlace (find test ps) otherwise) → IsAnswer (option_map_or UnknownPlace (cond b (Some p) (find test ps)) otherwise)
    by true later = All-head (λ q. q < 2 ^ 32) p ps are
    by false later = later

-- what an open desk answers names no place
open_answer : (ballots : List (List ℕ × List ℕ)) (request : RequestView) → IsAnswer (open_answer_of ballots request)
unfolding open_answer_of
open_answer ballots (Cast voter ballot) = cond_answer (has_ballot ballots voter) AlreadyCast _ tt (cond_answer (nat_le most_voters (length ballots)) VoterLimit Done tt tt)
open_answer ballots (Replace voter ballot) = cond_answer (has_ballot ballots voter) Done NoBallot tt tt
open_answer ballots (Withdraw voter) = cond_answer (has_ballot ballots voter) Done NoBallot tt tt
open_answer ballots Shut = tt

-- what a desk answers to a request that can be asked
IsAnswer-of : (o : OpeningView) (s : Standing) (request : RequestView) → IsRequest request → IsAnswer (answer_of o s request)
unfolding answer_of
IsAnswer-of o s request is =
    let ballot = places_of request in
    cond_answer s.is_shut DeskShut _ tt
    (found_place _ ballot _ is.ballot.1 (cond_answer (is_too_long o.version o.election.max_length ballot) TooLong _ tt (open_answer s.ballots request)))

-- the entries of a legal journal, where each request can be asked
legal_entries : (o : OpeningView) (s : Standing) (journal : List EntryView) → IsLegalFrom o s journal → All (λ x. IsRequest x.request) journal → All IsEntry journal
legal_entries o s [] legal can = All-nil IsEntry
legal_entries o s (x ∷ xs) legal can =
    let request = All-head (λ (y : EntryView). IsRequest y.request) x xs can in
    let entry : IsEntry x = record { by_clerk = legal.0.by_clerk; request = request; answer = small_place x.answer (subst IsAnswer (sym legal.0.answer) (IsAnswer-of o s x.request request)) } in
    All-cons IsEntry x xs entry (legal_entries o (step o s x.request) xs legal.1 (All-tail (λ (y : EntryView). IsRequest y.request) x xs can))

-- each row of a script asks what can be asked
requests_can_be : (a : Admission) (clerks : ℕ) (records : List Fields) (script : List ScriptRowView) → AllZip (Admits a clerks) records script → All (λ x. IsRequest x.request) script
requests_can_be a clerks [] [] rows = All-nil (λ (x : ScriptRowView). IsRequest x.request)
requests_can_be a clerks [] (x ∷ xs) rows = absurd rows
requests_can_be a clerks (r ∷ rs) [] rows = absurd rows
requests_can_be a clerks (r ∷ rs) (x ∷ xs) rows =
    All-cons (λ (y : ScriptRowView). IsRequest y.request) x xs rows.0.0.1.row_asks.2.can_be (requests_can_be a clerks rs xs rows.1)

-- what is true of all that each clerk asked is true of all entries of the clerks
entries_by_clerk : (P : RequestView → Type 0) (clerks : ℕ) (journal : List EntryView) → All (λ x. x.clerk < clerks) journal →
    ((clerk : ℕ) → clerk < clerks → All P (requests_of clerk journal)) → All (λ x. P x.request) journal
entries_by_clerk P clerks [] by each = All-nil (λ (x : EntryView). P x.request)
entries_by_clerk P clerks (x ∷ xs) by each =
    let own = All-head (λ (y : EntryView). y.clerk < clerks) x xs by in
    let hit : (x.clerk == x.clerk) ≡ true = eq-eqb x.clerk x.clerk refl in
    let Q : Bool → Type 0 = λ t. All P (map (λ (y : EntryView). y.request) (cond t (x ∷ entries_by x.clerk xs) (entries_by x.clerk xs))) in
    All-cons (λ (y : EntryView). P y.request) x xs
    (All-head P x.request (requests_of x.clerk xs) (subst Q hit (each x.clerk own)))
    (entries_by_clerk P clerks xs (All-tail (λ (y : EntryView). y.clerk < clerks) x xs by) (λ k below. later (x.clerk == k) (entries_by k xs) (each k below)))
  where
    later : (b : Bool) (rest : List EntryView) → All P (map (λ (y : EntryView). y.request) (cond b (x ∷ rest) rest)) → All P (map (λ (y : EntryView). y.request) rest)
    later true rest all = All-tail P x.request (map (λ (y : EntryView). y.request) rest) all
    later false rest all = all

-- what stands in a journal that serves a script can be asked
served_requests : (a : Admission) (clerks : ℕ) (records : List Fields) (script : List ScriptRowView) (journal : List EntryView) → IsScript a clerks records script →
    ServesScript clerks script journal → All (λ x. IsRequest x.request) journal
served_requests a clerks records script journal is serves =
    let can = requests_can_be a clerks records script is.rows in
    let asked = λ (k : ℕ). All-map IsRequest (λ (x : ScriptRowView). x.request) (filter (λ (x : ScriptRowView). x.clerk == k) script)
    (All-filter (λ (x : ScriptRowView). x.clerk == k) (λ (x : ScriptRowView). IsRequest x.request) script can) in
    entries_by_clerk IsRequest clerks journal serves.by_clerks (λ k below. let P : List RequestView → Type 0 = All IsRequest in subst P (sym (serves.in_order k below)) (asked k))

ended_requests : (a : Admission) (shuts : Bool) (clerks : ℕ) (records : List Fields) (script : List ScriptRowView) (journal : List EntryView) → IsScript a clerks records script →
    ShutAtEnd shuts (ServesScript clerks script) journal → All (λ x. IsRequest x.request) journal
ended_requests a false clerks records script journal is serves = served_requests a clerks records script journal is serves
ended_requests a true clerks records script journal is serves =
    let P : EntryView → Type 0 = λ x. IsRequest x.request in
    let last : EntryView = record { clerk = 0; request = Shut; answer = serves.1 } in
    let Q : List EntryView → Type 0 = All P in
    subst Q (sym serves.3) (All-append P serves.0 (last ∷ []) (served_requests a clerks records script serves.0 is serves.2) (All-cons P last [] (can_be_asked Shut tt) (All-nil P)))

-- the journal of a run that serves a script can be written
pub served_entries : (a : Admission) (shuts : Bool) (o : OpeningView) (clerks : ℕ) (records : List Fields) (script : List ScriptRowView) (journal : List EntryView) → IsScript a clerks records script →
    ShutAtEnd shuts (ServesScript clerks script) journal → IsLegal o journal → All IsEntry journal
served_entries a shuts o clerks records script journal is serves legal =
    legal_entries o (opened o.election) journal (entry_by_entry o journal legal) (ended_requests a shuts clerks records script journal is serves)

-- lists that are the rows of a script, served, are the script, served
script_served : (clerks : ℕ) (script : List ScriptRowView) (lists : List (List RequestView)) (journal : List EntryView) → AreClerks clerks → AreAsked clerks script lists →
    ServesAll lists journal → ServesScript clerks script journal
script_served clerks script lists journal range are serves =
    let size = are.one_each in
    let count : length lists ≡ clerks = omega arith in
    record {
      in_order = λ k below. serves.in_order k (omega arith) ∙ are.asked k (omega arith);
      by_clerks = let P : ℕ → Type 0 = λ n. All (λ x. x.clerk < n) journal in subst P count serves.by_clerks;
    }

-- the same of a run that may shut the desk
pub script_ended : (shuts : Bool) (clerks : ℕ) (script : List ScriptRowView) (lists : List (List RequestView)) (journal : List EntryView) → AreClerks clerks → AreAsked clerks script lists →
    ShutAtEnd shuts (ServesAll lists) journal → ShutAtEnd shuts (ServesScript clerks script) journal
script_ended false clerks script lists journal range are serves = script_served clerks script lists journal range are serves
script_ended true clerks script lists journal range are serves =
    (serves.0, serves.1, script_served clerks script lists serves.0 range are serves.2, serves.3)

-- a run that is ended after all was served
pub ended_serves : (shuts : Bool) (lists : List (List RequestView)) (served journal : List EntryView) → ServesAll lists served → ShutAtEnd shuts (λ journal. journal ≡ served) journal →
    ShutAtEnd shuts (ServesAll lists) journal
ended_serves false lists served journal serves is = let P : List EntryView → Type 0 = ServesAll lists in subst P (sym is) serves
ended_serves true lists served journal serves is =
    let P : List EntryView → Type 0 = ServesAll lists in (is.0, is.1, subst P (sym is.2) serves, is.3)
