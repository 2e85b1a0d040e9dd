-- What passing the tests of a read tells, and that the record is there. Assumes nothing.
use mathlib.Core.Path.{◌≡◌, sym, ◌∙◌}
use mathlib.Core.Bool.{true, false, not, ◌&&◌}
use mathlib.Core.List.{List, []}
use Prim.Native.Nat.{ℕ, suc, ◌+◌, ◌*◌, ◌^◌, ◌<◌, ◌≤◌}
use native.Mathlib.Omega.{arith}
use native.Mathlib.Nat.{mul-le-mul, mul-le-mul_right, suc-mul, mul_comm}
use lib.Dec.{ltb, leb, eqb}
use lib.ListN.{length, drop, length-drop}
use lib.Seq.{length-take-le}
use borrow.Author.Tests.{ltb-true, leb-true, eqb-true, not-true}
use Rattle.words.specs.declared.names.Node.{Node}
use Rattle.std.specs.Prelude.{Some, None, Err, is_err}
use Rattle.words.specs.Names.{node_of, is_name, is_null, pool_fits, decoding}
use Rattle.words.proofs.Laws.Cases.{both}
use Rattle.words.proofs.Laws.Names.{fits-small, node-name, decoded, undecoded}
use Rattle.answers.specs.declared.Refusal.TheVariants.{Size, CursorDoesNotStand, AtNull}
use Rattle.ends.specs.declared.Ends.{Ends}
use Rattle.answers.specs.Answer.{need, passed as accepted}
use Rattle.ends.specs.Tests.{ends_test}
use Rattle.answers.proofs.Laws.Ladder.{not-both, passed, passed-both}
use Rattle.ends.proofs.Laws.Stands.{stands-named}
use Rattle.ends.proofs.Laws.Holds.{name-null}
use Rattle.cursor.specs.declared.Cursor.{Cursor}
use Rattle.cursor.specs.Cursor.{cursor_stands, stand_test, some_test}
use Rattle.cursor.specs.Plain.{at, at_null, Sound}
use Rattle.cursor.proofs.Laws.Sound.{sound-test}
use Rattle.records.specs.Records.{records_fit, read_test, record_of, read_at}

-- sizes that fit
pub record Fits (n width len : ℕ) : Type 0 where
  pub pool : n ≤ 16777216
  pub wide : width ≤ 256
  pub some : 0 < width
  pub long : len ≡ width * n

pub fits : (n width len : ℕ) → records_fit n width len ≡ true → Fits n width len
unfolding records_fit
fits n width len h =
    let a = both (pool_fits n && leb width 256) (ltb 0 width && eqb len (width * n)) h in
    let b = both (pool_fits n) (leb width 256) a.0 in
    let d = both (ltb 0 width) (eqb len (width * n)) a.1 in
    record {
      pool = fits-small n b.0;
      wide = leb-true width 256 b.1;
      some = ltb-true 0 width d.0;
      long = eqb-true len (width * n) d.1;
    }

-- a read that is not refused
pub record Readable (ws : List ℕ) (c : Cursor) (len width : ℕ) : Type 0 where
  pub sizes : Fits (length ws) width len
  pub here : is_name (length ws) c.current.0 ≡ true

pub readable : (ws : List ℕ) (e : Ends) (c : Cursor) (len width : ℕ) → is_err (read_test ws e c len width) ≡ false → Readable ws c len width
unfolding read_test some_test stand_test
readable ws e c len width h =
    let at-node = need (not (is_null c.current)) AtNull accepted in
    let standing = need (cursor_stands ws e c) CursorDoesNotStand accepted in
    let a = passed (records_fit (length ws) width len) Size (some_test (stand_test ws e c) c) h in
    let b = passed-both (stand_test ws e c) at-node a.1 in
    let d = passed (not (is_null c.current)) AtNull accepted b.1 in
    let k = passed-both (ends_test ws e) standing b.0 in
    let s = passed (cursor_stands ws e c) CursorDoesNotStand accepted k.1 in
    record {
      sizes = fits (length ws) width len a.0;
      here = stands-named ws e c.current.0 c.prev.0 c.next.0 s.0 (not-true (is_null c.current) d.0);
    }

-- the product of sizes that fit is small
pub small : (n width i : ℕ) → n ≤ 16777216 → width ≤ 256 → i ≤ n → i * width ≤ 4294967296
small n width i p q r = let k = mul-le-mul {n₁ = i} {m₁ = width} {n₂ = 16777216} {m₂ = 256} (omega arith) q in omega arith

-- the record of a node is within the records
pub within : (n width len i : ℕ) → len ≡ width * n → i < n → i * width + width ≤ len
within n width len i e h =
    let k = mul-le-mul_right {m = suc i} {n = n} width h in
    let a = suc-mul i width in
    let b = mul_comm n width in
    omega arith

-- so that the product fits a word
pub small-pool : (n width : ℕ) → pool_fits n ≡ true → width ≤ 256 → width * n < 2 ^ 64
small-pool n width f w = let p = fits-small n f in let k = small n width n p w (omega arith) in let e = mul_comm n width in omega arith

-- where the record of an accepted read is
pub record Located (ws : List ℕ) (c : Cursor) (len width : ℕ) (i : Node) : Type 0 where
  pub node : i.0 ≡ node_of c.current.0
  pub small : i.0 * width ≤ 4294967296
  pub wide : width ≤ 256
  pub inside : i.0 * width + width ≤ len

pub located : (ws : List ℕ) (e : Ends) (c : Cursor) (len width : ℕ) (i : Node) → is_err (read_test ws e c len width) ≡ false
    → decoding (length ws) c.current ≡ Some i → Located ws c len width i
located ws e c len width i h d =
    let r = readable ws e c len width h in
    let k = decoded (length ws) c.current i d in
    let b = k.below in
    record {
      node = k.node;
      small = small (length ws) width i.0 r.sizes.pool r.sizes.wide (omega arith);
      wide = r.sizes.wide;
      inside = within (length ws) width len i.0 r.sizes.long b;
    }

-- and there is one
pub never-nothing : (ws : List ℕ) (e : Ends) (c : Cursor) (len width : ℕ) → is_err (read_test ws e c len width) ≡ false
    → decoding (length ws) c.current ≡ None → ⊥
never-nothing ws e c len width h d =
    not-both (sym (readable ws e c len width h).here ∙ undecoded (length ws) c.current d)

-- ---- on a sound list

module _ (ws : List ℕ) (e : Ends) (c : Cursor) (rs : List ℕ) (width : ℕ) (f : records_fit (length ws) width (length rs) ≡ true) where
  pool-fits : pool_fits (length ws) ≡ true
  unfolding records_fit
  pool-fits =
      (both (pool_fits (length ws)) (leb width 256)
      (both (pool_fits (length ws) && leb width 256) (ltb 0 width && eqb (length rs) (width * length ws)) f).0).0

  -- at a node the read is done
  pub read_done : (L : List ℕ) (x : ℕ) (R : List ℕ) → Sound ws e c (at L x R) → read_test ws e c (length rs) width ≡ accepted
  unfolding read_test some_test
  read_done L x R s =
      let n : is_null c.current ≡ false = rw s.place.0 (name-null x) in
      rw (f, sound-test ws e c (at L x R) pool-fits s, n)

  -- it gives the node's record, which is as long as the width
  pub read-does : (L : List ℕ) (x : ℕ) (R : List ℕ) → Sound ws e c (at L x R) → read_at ws e c rs width ≡ record_of rs width x
  unfolding read_at read_test some_test
  read-does L x R s =
      let n : is_null c.current ≡ false = rw s.place.0 (name-null x) in
      rw (f, sound-test ws e c (at L x R) pool-fits s, n, s.place.0, node-name x)

  pub record-long : (x : ℕ) → x < length ws → length (record_of rs width x) ≡ width
  record-long x h =
      let k = within (length ws) width (length rs) x (fits (length ws) width (length rs) f).long h in
      length-take-le width (drop (x * width) rs) (rw (length-drop (x * width) rs) (omega arith))

  -- at null it is refused 8
  pub read-null : (xs : List ℕ) → Sound ws e c (at_null xs) → read_test ws e c (length rs) width ≡ Err AtNull
  unfolding read_test some_test
  read-null xs s = let n : is_null c.current ≡ true = rw s.place.0 in rw (f, sound-test ws e c (at_null xs) pool-fits s, n)

  -- and gives nothing
  pub read-nothing : (xs : List ℕ) → Sound ws e c (at_null xs) → read_at ws e c rs width ≡ []
  unfolding read_at
  read-nothing xs s = rw (read-null xs s)
