-- `read` meets its contract: bytes that are fed in turn say what the whole line says. Assumes nothing.
use Rattle.lines.proofs.Laws.Lines.{fed-says}
use Rattle.lines.proofs.line.read.Goals as goal

pub returns : goal.returns
returns c = cc (fed-says c.args.bytes.now)
