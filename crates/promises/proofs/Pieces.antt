-- Bytes that come in pieces are one input. Assumes nothing.
use mathlib.Core.Path.{ap, ◌∙◌}
use mathlib.Core.List.{map}
use Prim.Native.Nat.{◌≤◌}
use native.Mathlib.Omega.{arith}
use Rattle.words.specs.Names.{directory_limit}
use Rattle.lines.specs.Lines.{line_of}
use Rattle.lines.specs.Inputs.{lines_of}
use Rattle.desk.specs.Step.{desk_stepped, fresh_desk, desk_limit}
use Rattle.history.proofs.Laws.Runs.{answers-are}
use Rattle.batch_desk.specs.Step.{no_marks}
use Rattle.batch_desk.specs.Run.{bytes_of_all}
use Rattle.batch_desk.specs.Pieces.{whole_of}
use Rattle.batch_desk.proofs.Laws.Pieces.{two_runs, pieces-are-one, pieces-answered}
use Rattle.promises.specs.Pieces.{InPieces}
use Rattle.promises.proofs.Desks.{own-marks, whole_run}

pub few-nodes : 1024 ≤ desk_limit
unfolding desk_limit
few-nodes = omega arith

pub few-lists : 8 ≤ directory_limit
unfolding directory_limit
few-lists = omega arith

pub pieces-one : InPieces
pieces-one =
    record {
      two = two_runs;
      many = pieces-are-one;
      desk = whole_run;
      answers = λ r ps h last k.
          let ls = map line_of (lines_of (whole_of ps)) in
          pieces-answered (desk_stepped (fresh_desk 1024 8) r) ps h last k ∙ ap bytes_of_all (answers-are 1024 few-nodes 8 few-lists no_marks own-marks ls);
    }
