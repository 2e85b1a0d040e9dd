-- What the audit's answers say: it accepts exactly if every list has a listing and none share a node, and a refusal names
-- the lowest list at fault. Assumes nothing.
use Rattle.std.proofs.Common.{◌≡◌, ℕ, ◌+◌, ◌≤◌, Bool, true, false, leb, List, ◌∷◌, ◌++◌, length, replicate, sym, refl, ap, ◌∙◌, arith, le-leb, leb-true}
use lib.Bits.{bit_xor}
use lib.ListN.{length-replicate}
use Rattle.words.specs.Names.{directory_limit, directory_fits, pool_fits}
use Rattle.words.specs.Listing.{Distinct, Apart, Listing}
use Rattle.words.specs.Afresh.{joined}
use Rattle.words.proofs.Laws.Cases.{both}
use Rattle.answers.specs.declared.Refusal.TheVariants.{Size, EndsDoNotHold, NoListing}
use Rattle.std.specs.Prelude.{None, Ok, Err}
use Rattle.ends.specs.declared.Ends.{Ends}
use Rattle.answers.specs.Answer.{Answer, answer_number}
use Rattle.ends.specs.Tests.{ends_hold}
use Rattle.walk.specs.Marks.{unmarked, sizes_fit, Marking, marking}
use Rattle.walk.proofs.Laws.Marks.{unmarked-clean}
use Rattle.walk.proofs.Laws.Calls.{sizes, sizes-fit}
use Rattle.audit.specs.declared.Audited.{Audited}
use Rattle.audit.specs.Audit.{audit_fits, Lowest, none, list, lowest_unheld, walks_of, tally, is_stranded, refused_at, after_walks, after_ends, audit_all}
use Rattle.audit.specs.Listed.{AllHold, Listed, AllApart, paint_all, is_stray}
use Rattle.audit.proofs.Laws.Passes.{walks-length}
use Rattle.audit.proofs.Laws.Sequences.{apart_distinct, distinct-all-apart, listed-ranged, listed-hold}
use Rattle.audit.proofs.Laws.Numbers.{on-lists-is, stranded-is}
use Rattle.audit.proofs.Laws.Walks.{holds-none, none-holds, Unheld, unheld-list, list-unheld, walks-accept, walks-sound, Stopped, walks-refuse, walks-lowest}

-- ---- the sizes

pub record Fits (ws : List ℕ) (es : List Ends) (ms : List ℕ) : Type 0 where
  pub pool : pool_fits (length ws) ≡ true
  pub long : length ms ≡ length ws
  pub few : length es ≤ directory_limit

pub fits : (ws : List ℕ) (es : List Ends) (ms : List ℕ) → audit_fits ws es ms ≡ true → Fits ws es ms
unfolding audit_fits directory_fits
fits ws es ms h =
    let a = both (sizes_fit ws ms) (leb (length es) directory_limit) h in
    let s = sizes ws ms a.0 in
    record { pool = s.fits; long = s.long; few = leb-true (length es) directory_limit a.1 }

pub fit : (ws : List ℕ) (es : List Ends) (ms : List ℕ) → Fits ws es ms → audit_fits ws es ms ≡ true
unfolding audit_fits directory_fits
fit ws es ms f = rw (sizes-fit ws ms f.pool f.long, le-leb (length es) directory_limit f.few)

-- ---- how it comes out

-- an audit that is done, of these sequences
abbrev pub audited : List ℕ → List ℕ → List (List ℕ) → Marking Audited
audited ws ms xss =
    marking (paint_all (unmarked ms) 0 xss)
    (record { answer = Ok None; list = 0; on_lists = length (joined xss); stranded = tally (length ws) (is_stray ws (joined xss)) })

module _ (ws : List ℕ) (es : List Ends) (ms : List ℕ) where
  pub audit-size : audit_fits ws es ms ≡ false → audit_all ws es ms ≡ marking ms (refused_at Size 0)
  unfolding audit_all
  audit-size f = rw f

  audit-after : audit_fits ws es ms ≡ true → (l : Lowest) → lowest_unheld ws 0 es ≡ l → audit_all ws es ms ≡ after_ends ws es ms l
  unfolding audit_all
  audit-after f l h = rw f (ap (after_ends ws es ms) h)

  audit-walks : audit_fits ws es ms ≡ true → lowest_unheld ws 0 es ≡ none → (l : Lowest) → (walks_of ws 0 es (unmarked ms)).result ≡ l
      → audit_all ws es ms ≡ after_walks ws (walks_of ws 0 es (unmarked ms)).marks l
  audit-walks f h l w = audit-after f none h ∙ ap (after_walks ws (walks_of ws 0 es (unmarked ms)).marks) w

  audit-fault : audit_fits ws es ms ≡ true → lowest_unheld ws 0 es ≡ none → (k : ℕ) → (walks_of ws 0 es (unmarked ms)).result ≡ list k
      → audit_all ws es ms ≡ marking (unmarked ms) (refused_at NoListing k)
  audit-fault f h k w =
      audit-walks f h (list k) w
      ∙ ap (λ (n : ℕ). marking (replicate n 0) (refused_at NoListing k)) (walks-length ws 0 es (unmarked ms) ∙ length-replicate {A = ℕ} (length ms) 0)

  data View : Type 0 where
    size : audit_fits ws es ms ≡ false → audit_all ws es ms ≡ marking ms (refused_at Size 0) → View
    ends : audit_fits ws es ms ≡ true → (k : ℕ) → lowest_unheld ws 0 es ≡ list k → audit_all ws es ms ≡ marking ms (refused_at EndsDoNotHold k) → View
    fault : audit_fits ws es ms ≡ true → lowest_unheld ws 0 es ≡ none → (k : ℕ) → (walks_of ws 0 es (unmarked ms)).result ≡ list k
        → audit_all ws es ms ≡ marking (unmarked ms) (refused_at NoListing k) → View
    done : audit_fits ws es ms ≡ true → (walks_of ws 0 es (unmarked ms)).result ≡ none
        → audit_all ws es ms ≡ after_walks ws (walks_of ws 0 es (unmarked ms)).marks none → View

  view : View
  view = go (audit_fits ws es ms) refl (lowest_unheld ws 0 es) refl (walks_of ws 0 es (unmarked ms)).result refl
    where
      go : (b : Bool) → audit_fits ws es ms ≡ b → (l : Lowest) → lowest_unheld ws 0 es ≡ l → (m : Lowest) → (walks_of ws 0 es (unmarked ms)).result ≡ m → View
      go false f l h m w = size f (audit-size f)
      go true f (list k) h m w = ends f k h (audit-after f (list k) h)
      go true f none h (list k) w = fault f h k w (audit-fault f h k w)
      go true f none h none w = done f w (audit-walks f h none w)

  -- by the number of the answer, a case that it is not
  other : (a : Answer) (o : Marking Audited) → (audit_all ws es ms).result.answer ≡ a → audit_all ws es ms ≡ o
      → answer_number o.result.answer ≡ answer_number a
  other a o d p = sym (ap (λ (x : Marking Audited). answer_number x.result.answer) p) ∙ ap answer_number d

  -- ---- accepted

  -- every list has a listing and none share a node: done, with the marks and the numbers of the listings
  pub audit-accepts : (xss : List (List ℕ)) → Fits ws es ms → Listed ws es xss → Distinct (joined xss) → audit_all ws es ms ≡ audited ws ms xss
  audit-accepts xss f l d =
      let z = unmarked ms in
      let long : length z ≡ length ws = length-replicate {A = ℕ} (length ms) 0 ∙ f.long in
      let w = walks-accept ws 0 es z xss f.pool long l (unmarked-clean ms (joined xss)) d in
      audit-walks (fit ws es ms f) (holds-none ws 0 es (listed-hold ws es xss l)) none (ap (λ (x : Marking Lowest). x.result) w)
      ∙ ap (λ (x : Marking Lowest). after_walks ws x.marks none) w
      ∙ ap (λ (n : ℕ). marking (paint_all z 0 xss) (record { answer = Ok None; list = 0; on_lists = n; stranded = tally (length ws) (is_stranded ws (paint_all z 0 xss)) }))
      (on-lists-is ws ms xss f.long d (listed-ranged ws es xss l))
      ∙ ap (λ (n : ℕ). marking (paint_all z 0 xss) (record { answer = Ok None; list = 0; on_lists = length (joined xss); stranded = n })) (stranded-is ws ms xss f.long)

  -- the same, of listings of which no two share a node
  pub audit-accepts-apart : (xss : List (List ℕ)) → Fits ws es ms → Listed ws es xss → AllApart xss → audit_all ws es ms ≡ audited ws ms xss
  audit-accepts-apart xss f l a = audit-accepts xss f l (apart_distinct ws es xss l a)

  pub record Sound : Type 0 where
    pub nodes : List (List ℕ)
    pub sized : Fits ws es ms
    pub listed : Listed ws es nodes
    pub distinct : Distinct (joined nodes)
    pub apart : AllApart nodes
    pub comes : audit_all ws es ms ≡ audited ws ms nodes

  sound : audit_fits ws es ms ≡ true → (walks_of ws 0 es (unmarked ms)).result ≡ none → Sound
  sound f w =
      let a = walks-sound ws 0 es (unmarked ms) w in
      let s = fits ws es ms f in
      record {
        nodes = a.nodes;
        sized = s;
        listed = a.listed;
        distinct = a.distinct;
        apart = distinct-all-apart a.nodes a.distinct;
        comes = audit-accepts a.nodes s a.listed a.distinct;
      }

  -- what is accepted has listings that share no node, and the marks and the numbers are theirs
  pub audit-sound : (audit_all ws es ms).result.answer ≡ Ok None → Sound
  audit-sound d = go view
    where
      go : View → Sound
      go (size f p) = absurd (let z : 1 ≡ 0 = other (Ok None) _ d p in omega arith)
      go (ends f k h p) = absurd (let z : 4 ≡ 0 = other (Ok None) _ d p in omega arith)
      go (fault f h k w p) = absurd (let z : 10 ≡ 0 = other (Ok None) _ d p in omega arith)
      go (done f w p) = sound f w

  -- ---- refused 4

  pub record Lowest4 : Type 0 where
    pub before : List Ends
    pub ends_of : Ends
    pub after : List Ends
    pub parts : es ≡ before ++ ends_of ∷ after
    pub sized : Fits ws es ms
    pub lower : AllHold ws before
    pub fails : ends_hold ws ends_of ≡ false
    pub comes : audit_all ws es ms ≡ marking ms (refused_at EndsDoNotHold (length before))

  -- the ends of every lower list hold, and those of the list that is named do not
  pub audit-lowest-4 : (audit_all ws es ms).result.answer ≡ Err EndsDoNotHold → Lowest4
  audit-lowest-4 d = go view
    where
      made : audit_fits ws es ms ≡ true → (k : ℕ) → audit_all ws es ms ≡ marking ms (refused_at EndsDoNotHold k) → Unheld ws 0 es k → Lowest4
      made f k p u =
          let n : k ≡ length u.before = omega (arith, u.number) in
          record {
            before = u.before;
            ends_of = u.ends;
            after = u.after;
            parts = u.parts;
            sized = fits ws es ms f;
            lower = u.lower;
            fails = u.fails;
            comes = p ∙ ap (λ (j : ℕ). marking ms (refused_at EndsDoNotHold j)) n;
          }

      go : View → Lowest4
      go (size f p) = absurd (let z : 1 ≡ 4 = other (Err EndsDoNotHold) _ d p in omega arith)
      go (ends f k h p) = made f k p (list-unheld ws 0 es k h)
      go (fault f h k w p) = absurd (let z : 10 ≡ 4 = other (Err EndsDoNotHold) _ d p in omega arith)
      go (done f w p) = absurd (let z : 0 ≡ 4 = other (Err EndsDoNotHold) _ d p in omega arith)

  -- ---- refused 10

  pub record Lowest10 : Type 0 where
    pub before : List Ends
    pub ends_of : Ends
    pub after : List Ends
    pub parts : es ≡ before ++ ends_of ∷ after
    pub sized : Fits ws es ms
    pub holds : AllHold ws es
    pub nodes : List (List ℕ)
    pub listed : Listed ws before nodes
    pub apart : AllApart nodes
    pub fails : (xs : List ℕ) → Listing bit_xor ws ends_of.head.0 ends_of.tail.0 xs → Apart xs (joined nodes) → ⊥
    pub comes : audit_all ws es ms ≡ marking (unmarked ms) (refused_at NoListing (length before))

  -- the lower lists have listings that share no node, and the list that is named has none that shares no node with them
  pub audit-lowest-10 : (audit_all ws es ms).result.answer ≡ Err NoListing → Lowest10
  audit-lowest-10 d = go view
    where
      made : audit_fits ws es ms ≡ true → lowest_unheld ws 0 es ≡ none → (k : ℕ) → audit_all ws es ms ≡ marking (unmarked ms) (refused_at NoListing k)
          → Stopped ws 0 es (unmarked ms) k → Lowest10
      made f h k p s =
          let n : k ≡ length s.before = omega (arith, s.number) in
          record {
            before = s.before;
            ends_of = s.ends;
            after = s.after;
            parts = s.parts;
            sized = fits ws es ms f;
            holds = none-holds ws 0 es h;
            nodes = s.lower.nodes;
            listed = s.lower.listed;
            apart = distinct-all-apart s.lower.nodes s.lower.distinct;
            fails = λ xs l a. s.fails xs l (unmarked-clean ms xs) a;
            comes = p ∙ ap (λ (j : ℕ). marking (unmarked ms) (refused_at NoListing j)) n;
          }

      go : View → Lowest10
      go (size f p) = absurd (let z : 1 ≡ 10 = other (Err NoListing) _ d p in omega arith)
      go (ends f k h p) = absurd (let z : 4 ≡ 10 = other (Err NoListing) _ d p in omega arith)
      go (fault f h k w p) =
          let s = fits ws es ms f in
          made f h k p (walks-lowest ws 0 es (unmarked ms) k s.pool (length-replicate {A = ℕ} (length ms) 0 ∙ s.long) w)
      go (done f w p) = absurd (let z : 0 ≡ 10 = other (Err NoListing) _ d p in omega arith)

-- ---- and the other way round: such a directory is refused so

pub audit-refuses-4 : (ws : List ℕ) (before : List Ends) (e : Ends) (after : List Ends) (ms : List ℕ) → Fits ws (before ++ e ∷ after) ms
    → AllHold ws before → ends_hold ws e ≡ false → audit_all ws (before ++ e ∷ after) ms ≡ marking ms (refused_at EndsDoNotHold (length before))
audit-refuses-4 ws before e after ms f l h =
    let es = before ++ e ∷ after in
    audit-after ws es ms (fit ws es ms f) (list (0 + length before)) (unheld-list ws 0 before e after l h)
    ∙ ap (λ (j : ℕ). marking ms (refused_at EndsDoNotHold j)) (plain (length before))
  where
    plain : (n : ℕ) → 0 + n ≡ n
    plain n = omega arith

pub audit-refuses-10 : (ws : List ℕ) (before : List Ends) (e : Ends) (after : List Ends) (ms : List ℕ) (xss : List (List ℕ))
    → Fits ws (before ++ e ∷ after) ms → AllHold ws (before ++ e ∷ after) → Listed ws before xss → AllApart xss
    → ((xs : List ℕ) → Listing bit_xor ws e.head.0 e.tail.0 xs → Apart xs (joined xss) → ⊥)
    → audit_all ws (before ++ e ∷ after) ms ≡ marking (unmarked ms) (refused_at NoListing (length before))
audit-refuses-10 ws before e after ms xss f h l a none-fits =
    let es = before ++ e ∷ after in
    let long : length (unmarked ms) ≡ length ws = length-replicate {A = ℕ} (length ms) 0 ∙ f.long in
    audit-fault ws es ms (fit ws es ms f) (holds-none ws 0 es h) (0 + length before)
    (walks-refuse ws 0 before e after (unmarked ms) xss f.pool long l (unmarked-clean ms (joined xss)) (apart_distinct ws before xss l a) (λ xs m c p. none-fits xs m p))
    ∙ ap (λ (j : ℕ). marking (unmarked ms) (refused_at NoListing j)) (plain (length before))
  where
    plain : (n : ℕ) → 0 + n ≡ n
    plain n = omega arith
