-- Demand 3 is kept. Assumes nothing.
use mathlib.Core.Path.{◌≡◌, refl}
use mathlib.Core.Logic.{⊎_elim}
use mathlib.Core.Bool.{false}
use mathlib.Core.List.{map}
use Prim.Native.Nat.{ℕ, ◌+◌, ◌<◌, ◌≤◌}
use native.Mathlib.Omega.{arith}
use lib.Dec.{ltb}
use lib.ListN.{get_or}
use borrow.Author.Tests.{lt-ltb, le-ltb}
use Rattle.std.specs.Prelude.{Option}
use Rattle.words.specs.Names.{is_linked}
use Rattle.words.proofs.Laws.Cases.{below_or_not}
use Rattle.links.proofs.Laws.XorListing.{xor-listing-reverse}
use Rattle.lines.specs.declared.line.Order.{Order}
use Rattle.lines.specs.Lines.{line_of}
use Rattle.desk.specs.Step.{Desk, DeskStepped, fresh_desk}
use Rattle.batch_desk.specs.Step.{batch_step}
use Rattle.history.specs.History.{History, PlainStepped, times, on_lists, held, is_held}
use Rattle.history.specs.Follows.{Agrees, Follows}
use Rattle.history.specs.Runs.{never_answered}
use Rattle.history.proofs.Laws.Runs.{each_line}
use Rattle.history.proofs.Laws.Numbers.{never-answered}
use Rattle.promises.specs.Demand3.{Whereabouts, unlinked, listed, stranded, AfterLine, EveryDesk, EveryLentDesk, TheBatchDesk, Demand3}
use Rattle.promises.specs.Desks.{slices_after, own_marks}
use Rattle.promises.proofs.Bounds.{at_most}
use Rattle.promises.proofs.Desks.{held-is, slices-are, slices-fresh, batch-is, own-marks, all_own}
use Rattle.promises.proofs.Pieces.{few-nodes, few-lists, pieces-one}

-- a node that is held at most once, and linked if it is held, is at one of three places
somewhere : (n : ℕ) (d : Desk) (h : History) → Agrees n d h → (x : ℕ) → x < n → Whereabouts d.words h x
unfolding held is_held
somewhere n d h g x r =
    go (on_lists x h.places) refl (times x h.stranded) refl (g.once x) (g.linked x r)
  where
    go : (p : ℕ) → on_lists x h.places ≡ p → (q : ℕ) → times x h.stranded ≡ q → on_lists x h.places + times x h.stranded ≤ 1
        → is_linked (get_or d.words x 0) ≡ ltb 0 (on_lists x h.places + times x h.stranded) → Whereabouts d.words h x
    go p e q f c k =
        ⊎_elim
        (λ a. listed (rw (k, lt-ltb 0 (on_lists x h.places + times x h.stranded) (omega arith))) (omega arith) (omega arith))
        (λ a. ⊎_elim
        (λ b. stranded (rw (k, lt-ltb 0 (on_lists x h.places + times x h.stranded) (omega arith))) (omega arith) (omega arith))
        (λ b. unlinked (rw (k, le-ltb 0 (on_lists x h.places + times x h.stranded) (omega arith))) (omega arith) (omega arith))
        (below_or_not 0 q))
        (below_or_not 0 p)

promised : (n : ℕ) (d : Desk) (p : Option Order) (s : DeskStepped) (t : PlainStepped) → never_answered t.reply.number ≡ false → Follows n d p s t → AfterLine n d p s t
promised n d p s t own f =
    let g = f.agrees in
    record {
      lists = g.lists;
      forward = λ l r. (g.sound l r).listing;
      backward = λ l r. xor-listing-reverse s.desk.words _ _ _ (g.sound l r).listing;
      cursors = λ l r. (g.sound l r).place;
      whereabouts = somewhere n s.desk t.history g;
      words = f.afresh;
      few = λ c. at_most _ d.words s.desk.words (omega arith) (f.few c);
      none = f.none;
      answer = f.reply;
      table = rw f.reply own;
    }

every-desk : EveryDesk
every-desk n k f few gs m v mv = promised n _ _ _ _ (never-answered n _ (line_of v.line)) (each_line n f k few gs m v mv)

every-lent-desk : EveryLentDesk
every-lent-desk n k f few s fresh gs m v mv =
    rw (held-is (slices_after s gs) v, slices-are gs s, slices-fresh n k s fresh) (every-desk n k f few gs m v mv)

the-batch-desk : TheBatchDesk
unfolding batch_step
the-batch-desk gs v =
    rw (batch-is gs (fresh_desk 1024 8)) (every-desk 1024 8 few-nodes few-lists (map own_marks gs) (all_own gs) (own_marks v) own-marks)

pub demand-3 : Demand3
demand-3 = record { desk = every-desk; lent-desk = every-lent-desk; batch-desk = the-batch-desk; in_pieces = pieces-one }
