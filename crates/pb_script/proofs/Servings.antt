-- How the clerks' requests come into one journal.
use Rattle.std.proofs.Common.{◌≡◌, ◌≢◌, ◌∙◌, ℕ, ◌+◌, ◌<◌, ◌⊎◌, inl, inr, List, [], ◌∷◌, ◌++◌, length, get_or, take, drop, map, true, false, cond, refl, sym, ap, subst, arith, ◌-◌, length-drop}
use Rattle.std.specs.Prelude.{All, ◌==◌, IfOk, Result, Ok, Err}
use Rattle.std.proofs.lemmas.Bool.{cases_eq, eq-eqb, ne_eqb}
use Rattle.std.proofs.lemmas.List.{append-nil, append_assoc, get_or-map, get_or_default, length-map, map-append, drop-map, take_all, take_more, take-append-drop}
use Rattle.std.proofs.lemmas.Option.{get_or_from_slice_get}
use Rattle.std.proofs.lemmas.List.Elements.{All-append, All-cons, All-head, All-nil, All-tail, filter-append}
use Rattle.pb_core.specs.Request.{EntryView, RequestView}
use Rattle.pb_core.specs.declared.answer.Answer.{Answer}
use Rattle.pb_desk.specs.Desk.{DeskView}
use Rattle.pb_shared.specs.Clerk.{AreClerks, Begins, ClerkView, IsMergeOf, SharedView, Serves}
use Rattle.pb_shared.specs.Inner.AllClerks.{AreAll}
use Rattle.pb_shared.specs.Inner.Entries.{entries_by}
use Rattle.pb_shared.specs.Inner.Newcomers.{AreNewcomers}
use Rattle.pb_shared.specs.declared.seat_view.Sheet.{Sheet}
use Rattle.pb_shared.specs.Inner.Seats.{newcomer}
use Rattle.pb_shared.specs.declared.share_fault.ShareFault.{ShareFault}
use Rattle.pb_shared.specs.declared.share_fault.ShareFault.TheVariants as share
use Rattle.pb_script.specs.declared.serve_script.Returned.{Returned}
use Rattle.pb_script.specs.Inner.Serving.{AppendsFor, AreBack, AreCounts, HasServed, IsServingFault, ServesUpTo, list_of, unshared, requests_of}

-- an element of a list, read through a function
pub read_through : {X Y : Type 0} (f : X → Y) (items : List X) (list : List Y) (i : ℕ) (x : X) → map f items ≡ list → i < length items → x ≡ get_or items i x →
    (i < length list) × (f x ≡ get_or list i (f x))
read_through f items list i x is within read =
    let size = length-map items f in
    (omega (arith, ap length is), ap f read ∙ sym (get_or-map f items i x (f x) within) ∙ ap (λ l. get_or l i (f x)) is)

-- the elements of a list from one on, read through a function
pub rest_through : {X Y : Type 0} (f : X → Y) (n : ℕ) (items : List X) (list : List Y) → map f items ≡ list → map f (take (length items - n) (drop n items)) ≡ drop n list
rest_through f n items list is =
    ap (map f) (take_all (length items - n) (drop n items) (omega (arith, length-drop n items))) ∙ sym (drop-map f n items) ∙ ap (drop n) is

-- one request more that a clerk served
pub HasServed-more : (d : SharedView) (number : ℕ) (requests : List RequestView) (c c' : ClerkView) (served : ℕ) (request : RequestView) (answer : Answer) (tries : ℕ) →
    HasServed d number requests c served → c'.desk ≡ c.desk → Serves tries d c.sheet request answer c'.sheet → (served < length requests) × (request ≡ get_or requests served request) →
    HasServed d number requests c' (served + 1)
HasServed-more d number requests c c' served request answer tries so_far same serves next =
    let is = serves.4 in
    let x : EntryView = record { clerk = c.sheet.number; request = request; answer = answer } in
    record {
      own = same ∙ so_far.own;
      number_is = ap (λ (v : Sheet). v.number) is ∙ so_far.number_is;
      within = omega (arith, next.0);
      mine =
          ap (λ (v : Sheet). map (λ (y : EntryView). y.request) v.mine) is ∙ map-append (λ (y : EntryView). y.request) c.sheet.mine (x ∷ [])
          ∙ ap (λ l. l ++ request ∷ []) so_far.mine ∙ ap (λ r. take served requests ++ r ∷ []) next.1 ∙ sym (take_more requests served request next.0);
    }

-- the requests of a clerk in two journals, one after the other
requests_of-append : (clerk : ℕ) (before later : List EntryView) → requests_of clerk (before ++ later) ≡ requests_of clerk before ++ requests_of clerk later
requests_of-append clerk before later =
    ap (map (λ (y : EntryView). y.request)) (filter-append (λ (y : EntryView). y.clerk == clerk) before later)
    ∙ map-append (λ (y : EntryView). y.request) (entries_by clerk before) (entries_by clerk later)

-- entries of one clerk are all that clerk's, and none of another's
own_entries : (clerk : ℕ) (later : List EntryView) → All (λ x. x.clerk ≡ clerk) later → entries_by clerk later ≡ later
own_entries clerk [] by = refl
own_entries clerk (x ∷ xs) by =
    let hit : (x.clerk == clerk) ≡ true = eq-eqb x.clerk clerk (All-head (λ (y : EntryView). y.clerk ≡ clerk) x xs by) in
    ap (λ t. cond t (x ∷ entries_by clerk xs) (entries_by clerk xs)) hit
    ∙ ap (λ l. x ∷ l) (own_entries clerk xs (All-tail (λ (y : EntryView). y.clerk ≡ clerk) x xs by))

others_entries : (clerk other : ℕ) (later : List EntryView) → All (λ x. x.clerk ≡ clerk) later → other ≢ clerk → entries_by other later ≡ []
others_entries clerk other [] by differ = refl
others_entries clerk other (x ∷ xs) by differ =
    let miss : (x.clerk == other) ≡ false = ne_eqb x.clerk other (λ e. differ (sym e ∙ All-head (λ (y : EntryView). y.clerk ≡ clerk) x xs by)) in
    ap (λ t. cond t (x ∷ entries_by other xs) (entries_by other xs)) miss
    ∙ others_entries clerk other xs (All-tail (λ (y : EntryView). y.clerk ≡ clerk) x xs by) differ

-- a clerk's requests that were left over
pub ServesUpTo-more : (i : ℕ) (lists : List (List RequestView)) (served : List ℕ) (left : List RequestView) (before after : List EntryView) →
    i < length lists → ServesUpTo i lists served before → left ≡ drop (get_or served i 0) (list_of lists i) → AppendsFor i left before after →
    ServesUpTo (i + 1) lists served after
ServesUpTo-more i lists served left before after within so_far rest appends = record {
  whole = λ k below known. elim (cases_eq k i) [
    | inl same ↦ let P : ℕ → Type 0 = λ n. requests_of n after ≡ list_of lists n in subst P (sym same) here
    | inr other ↦ kept k other ∙ so_far.whole k (omega arith) known
  ];
  first = λ k above known. let other : k ≢ i = λ e. absurd (omega arith) in kept k other ∙ so_far.first k (omega arith) known;
  by_clerks = let P : List EntryView → Type 0 = All (λ x. x.clerk < length lists) in
      subst P (sym appends.journal_is) (All-append (λ (x : EntryView). x.clerk < length lists) before appends.later so_far.by_clerks
      (λ j d below. let by = appends.by_clerk j d below in omega arith));
}
  where
    of_both : (k : ℕ) → requests_of k after ≡ requests_of k before ++ requests_of k appends.later
    of_both k = ap (requests_of k) appends.journal_is ∙ requests_of-append k before appends.later

    kept : (k : ℕ) → k ≢ i → requests_of k after ≡ requests_of k before
    kept k other = of_both k ∙ ap (λ l. requests_of k before ++ map (λ (y : EntryView). y.request) l) (others_entries i k appends.later appends.by_clerk other) ∙ append-nil (requests_of k before)

    here : requests_of i after ≡ list_of lists i
    here =
        of_both i ∙ ap (λ l. requests_of i before ++ map (λ (y : EntryView). y.request) l) (own_entries i appends.later appends.by_clerk)
        ∙ ap (λ l. requests_of i before ++ l) (appends.asked ∙ rest) ∙ ap (λ l. l ++ drop (get_or served i 0) (list_of lists i)) (so_far.first i (omega arith) within)
        ∙ take-append-drop (get_or served i 0) (list_of lists i)

-- one request more that is served for a clerk
pub AppendsFor-more : {X : Type 0} (f : X → RequestView) (clerk : ℕ) (items : List X) (i : ℕ) (x : X) (answer : Answer) (before between after : List EntryView) →
    AppendsFor clerk (map f (take i items)) before between → i < length items → x ≡ get_or items i x →
    after ≡ between ++ record { clerk = clerk; request = f x; answer = answer } ∷ [] → AppendsFor clerk (map f (take (i + 1) items)) before after
AppendsFor-more f clerk items i x answer before between after so_far within read is =
    let entry : EntryView = record { clerk = clerk; request = f x; answer = answer } in
    let P : EntryView → Type 0 = λ y. y.clerk ≡ clerk in
    record {
      later = so_far.later ++ entry ∷ [];
      journal_is = is ∙ ap (λ l. l ++ entry ∷ []) so_far.journal_is ∙ append_assoc before so_far.later (entry ∷ []);
      by_clerk = All-append P so_far.later (entry ∷ []) so_far.by_clerk (All-cons P entry [] refl (All-nil P));
      asked =
          map-append (λ (y : EntryView). y.request) so_far.later (entry ∷ []) ∙ ap (λ l. l ++ f x ∷ []) so_far.asked ∙ sym (map-append f (take i items) (x ∷ []))
          ∙ ap (λ y. map f (take i items ++ y ∷ [])) read ∙ ap (map f) (sym (take_more items i x within));
    }

-- a fact of what two facts are said of
pub if_both : {X E : Type 0} (r : Result X E) (P Q R : X → Type 0) → IfOk r P → IfOk r Q → ((x : X) → P x → Q x → R x) → IfOk r R
if_both (Ok x) P Q R p q both = both x p q
if_both (Err e) P Q R p q both = tt

-- some element of a list that has one
some_element : {X : Type 0} (xs : List X) (i : ℕ) → i < length xs → X
some_element [] i below = absurd (omega arith)
some_element (x ∷ xs) i below = x

-- what came back of the clerks' work
pub AreBack-from : (d : SharedView) (lists : List (List RequestView)) (jobs : List ClerkView) (back : List Returned) → AreNewcomers d jobs → length back ≡ length jobs →
    ((i : ℕ) (r : Returned) → i < length jobs → (job : ClerkView) × ((e : ClerkView) → get_or jobs i e ≡ job)
    × HasServed d job.sheet.number (list_of lists job.sheet.number) (get_or back i r).clerk (get_or back i r).served) →
    AreBack d lists (map (λ (r : Returned). r.clerk) back) (map (λ (r : Returned). r.served) back)
AreBack-from d lists jobs back fresh count gives = record {
  clerks_count = length-map back (λ (r : Returned). r.clerk) ∙ count ∙ fresh.0;
  served_count = length-map back (λ (r : Returned). r.served) ∙ count ∙ fresh.0;
  each = λ number c below is.
      let all = fresh.0 in
      let within : number < length jobs = omega arith in
      let inside : number < length back = omega arith in
      let r = some_element back number inside in
      let work = gives number r within in
      let job : work.0 ≡ newcomer d number = sym (work.1 work.0) ∙ get_or_from_slice_get jobs number (newcomer d number) work.0 (fresh.1 number below) in
      let clerk : (get_or back number r).clerk ≡ c = sym (is ∙ get_or-map (λ (r : Returned). r.clerk) back number r c inside) in
      let served : (get_or back number r).served ≡ get_or (map (λ (r : Returned). r.served) back) number 0 = sym (get_or-map (λ (r : Returned). r.served) back number r 0 inside) in
      let P : ClerkView → ClerkView → ℕ → Type 0 = λ j c n. HasServed d j.sheet.number (list_of lists j.sheet.number) c n in
      subst (P (newcomer d number) c) served (subst (λ v. P (newcomer d number) v (get_or back number r).served) clerk
      (subst (λ j. P j (get_or back number r).clerk (get_or back number r).served) job work.2));
}

-- the clerk with this number is back
clerk_back : (d : SharedView) (lists : List (List RequestView)) (clerks : List ClerkView) (served : List ℕ) → AreBack d lists clerks served → (number : ℕ) → number < d.clerks →
    (c : ClerkView) × (c ≡ get_or clerks number c) × HasServed d number (list_of lists number) c (get_or served number 0)
clerk_back d lists clerks served back number below =
    let size = back.clerks_count in
    let inside : number < length clerks = omega arith in
    let e = some_element clerks number inside in
    let c = get_or clerks number e in
    let is : c ≡ get_or clerks number c = get_or_default clerks number e c inside in
    (c, is, back.each number c below is)

-- all clerks are back, and they are the desk's own
pub own_back : (d : SharedView) (lists : List (List RequestView)) (clerks : List ClerkView) (served : List ℕ) → AreBack d lists clerks served → All (λ c. c.desk ≡ d) clerks
own_back d lists clerks served back = λ k e below.
    let size = back.clerks_count in
    let c = get_or clerks k e in
    (back.each k c (omega arith) (get_or_default clerks k e c below)).own

pub AreAll-back : (d : SharedView) (lists : List (List RequestView)) (clerks : List ClerkView) (served : List ℕ) → AreBack d lists clerks served → AreAll d clerks
AreAll-back d lists clerks served back number below =
    let size = back.clerks_count in
    let inside : number < length clerks = omega arith in
    let c = clerk_back d lists clerks served back number below in
    let count = length-map clerks (λ (v : ClerkView). v.sheet.number) in
    (number, omega arith, get_or-map (λ (v : ClerkView). v.sheet.number) clerks number c.0 number inside ∙ ap (λ (v : ClerkView). v.sheet.number) (sym c.1) ∙ c.2.number_is)

pub AreCounts-back : (d : SharedView) (lists : List (List RequestView)) (clerks : List ClerkView) (served : List ℕ) → length lists ≡ d.clerks → AreBack d lists clerks served → AreCounts lists served
AreCounts-back d lists clerks served one_each back = record {
  one_each = back.served_count ∙ sym one_each;
  within = λ k below. (clerk_back d lists clerks served back k (omega arith)).2.within;
}

-- what the clerks served stands in the journal, and nothing else
pub ServesUpTo-merged : (d : SharedView) (lists : List (List RequestView)) (clerks : List ClerkView) (served : List ℕ) (journal : List EntryView) → d.start.journal ≡ [] →
    length lists ≡ d.clerks → AreBack d lists clerks served → IsMergeOf d clerks journal → ServesUpTo 0 lists served journal
ServesUpTo-merged d lists clerks served journal empty one_each back merge = record {
  whole = λ k below known. absurd (omega arith);
  first = λ k above known.
      let size = back.clerks_count in
      let c = clerk_back d lists clerks served back k (omega arith) in
      let inside : k < length clerks = omega arith in
      let Q : ClerkView → Type 0 = λ v. Begins v.sheet.seen journal × (entries_by v.sheet.number merge.later ≡ v.sheet.mine) in
      let agrees = subst Q (sym c.1) (merge.agrees k c.0 inside) in
      let mine : entries_by k merge.later ≡ c.0.sheet.mine = let P : ℕ → Type 0 = λ n. entries_by n merge.later ≡ c.0.sheet.mine in subst P c.2.number_is agrees.1 in
      ap (requests_of k) all ∙ ap (map (λ (y : EntryView). y.request)) mine ∙ c.2.mine;
  by_clerks = let P : List EntryView → ℕ → Type 0 = λ j n. All (λ x. x.clerk < n) j in
      subst (λ j. P j (length lists)) (sym all) (subst (P merge.later) (sym one_each) merge.by_clerks);
}
  where
    all : journal ≡ merge.later
    all = merge.journal_is ∙ ap (λ j. j ++ merge.later) empty

pub AreBack-same : (d : SharedView) (lists : List (List RequestView)) (clerks clerks' : List ClerkView) (served served' : List ℕ) → AreBack d lists clerks served →
    clerks' ≡ clerks → served' ≡ served → AreBack d lists clerks' served'
AreBack-same d lists clerks clerks' served served' back is are =
    let P : List ClerkView → List ℕ → Type 0 = AreBack d lists in
    subst (λ c. P c served') (sym is) (subst (P clerks) (sym are) back)

-- a desk that is not shared
pub unserved : (clerks : ℕ) (d : DeskView) (fault : ShareFault) → ((fault ≡ share.ClerkCount d) × ¬ AreClerks clerks) ⊎ ((fault ≡ share.NoMemory d) × AreClerks clerks) →
    IsServingFault clerks (unshared fault)
unserved clerks d fault (inl back) = let P : ShareFault → Type 0 = λ f. IsServingFault clerks (unshared f) in subst P (sym back.0) back.1
unserved clerks d fault (inr back) = let P : ShareFault → Type 0 = λ f. IsServingFault clerks (unshared f) in subst P (sym back.0) tt
