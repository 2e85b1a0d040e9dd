-- Demand 2 is kept. Assumes nothing.
use Rattle.moves.proofs.Laws.Moves.{move-next-does, move-prev-does}
use Rattle.insert.proofs.Laws.Insert.{insert-after-does}
use Rattle.insert.proofs.Laws.Mirror.{insert-before-does}
use Rattle.remove.proofs.Laws.Remove.{remove-does}
use Rattle.remove.proofs.Laws.Replace.{replace-does}
use Rattle.splice.proofs.Laws.Splice.{splice-after-does}
use Rattle.split.proofs.Laws.Split.{split-after-does}
use Rattle.splice.proofs.Laws.Mirror.{splice-before-does}
use Rattle.split.proofs.Laws.Mirror.{split-before-does}
use Rattle.list.proofs.Laws.Pushes.{sound-null, push-front-does, push-back-does}
use Rattle.list.proofs.Laws.Pops.{pop-front-does, pop-back-does}
use Rattle.list.proofs.Laws.Ends.{front-does, back-does, fast-clear-does}
use Rattle.place.proofs.Laws.Real.{real-prev-does, real-next-does}
use Rattle.iter.proofs.Laws.Steps.{iterates}
use Rattle.walk.proofs.Laws.Walk.{walk-accepts}
use Rattle.promises.specs.Demand2.{Demand2}
use Rattle.promises.proofs.Plain.{reaches, shows, reads, none-listing, is-empty, take-does, reversal-does, fast-cleared, clear-does}

pub demand-2 : Demand2
demand-2 =
    record {
      new = none-listing;
      at-cursor = λ ws e c z f s.
          record {
            node = shows ws e c z s;
            move-next = let r = move-next-does ws e c z f s in reaches ws e _ _ _ r.0 r.1;
            move-prev = let r = move-prev-does ws e c z f s in reaches ws e _ _ _ r.0 r.1;
            read = reads ws e c z s;
            insert-after = λ i. insert-after-does ws e c z i f s;
            insert-before = λ i. insert-before-does ws e c z i f s;
            remove = remove-does ws e c z f s;
            replace = λ i. replace-does ws e c i f z s;
          };
      at-both = λ ws e c o z ys f s l a.
          record {
            splice-after = splice-after-does ws e c o f z ys s l a;
            splice-before = splice-before-does ws e c o f z ys s l a;
            split-after = split-after-does ws e c o f z ys s l;
            split-before = split-before-does ws e c o f z ys s l;
          };
      on-list = λ ws e xs f l.
          record {
            is-empty = is-empty ws e xs l;
            cursors =
                record {
                  null = sound-null ws e xs l;
                  front = let r = front-does ws e xs f l in reaches ws e _ _ _ r.0 r.1;
                  back = let r = back-does ws e xs f l in reaches ws e _ _ _ r.0 r.1;
                  by-prev = λ L i R q. let r = real-prev-does ws e L i R f (rw q l) in reaches ws e _ _ _ r.0 r.1;
                  by-next = λ L i R q. let r = real-next-does ws e L i R f (rw q l) in reaches ws e _ _ _ r.0 r.1;
                };
            iterate = λ bs. iterates ws e xs bs f l;
            push-front = λ i. push-front-does ws e xs i f l;
            push-back = λ i. push-back-does ws e xs i f l;
            pop-front = pop-front-does ws e f xs l;
            pop-back = pop-back-does ws e f xs l;
            take = take-does ws e xs f l;
            reversal = reversal-does ws e xs f l;
            fast-clear = fast-cleared ws e xs f l;
            stranded = (fast-clear-does ws e xs f l).1;
            clear = λ ms m. clear-does ws ms e xs f m l;
            walk = λ ms m. walk-accepts ws ms e xs f m l;
          };
    }
