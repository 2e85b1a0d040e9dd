-- The limits are as said. Assumes nothing.
use mathlib.Core.Path.{refl}
use native.Mathlib.Omega.{arith}
use lib.ListN.{length}
use borrow.Author.Tests.{le-leb, lt-leb, eq-eqb}
use Rattle.words.specs.Names.{pool_limit, pool_fits, directory_limit, directory_fits}
use Rattle.links.specs.Reach.{limit_power}
use Rattle.links.proofs.Laws.Reach.{name-reach, xor-reach, words-reach}
use Rattle.desk.specs.Step.{desk_limit, desk_fits}
use Rattle.promises.specs.Limits.{Limits}

pub limits : Limits
unfolding pool_fits pool_limit desk_fits desk_limit directory_fits directory_limit limit_power
limits =
    record {
      pool-fits = λ n h. le-leb n 1000000 (omega arith);
      pool-past = λ n h. lt-leb n 1000000 (omega arith);
      desk-fits = λ d ms w m l. rw (le-leb (length d.words) 4096 (omega arith), eq-eqb (length ms) (length d.words) m, le-leb (length d.lists) 64 l);
      desk-past = λ d ms h. rw (lt-leb (length d.words) 4096 (omega arith));
      names = name-reach;
      xors = xor-reach;
      words = words-reach;
      power = refl;
      reached = refl;
    }
