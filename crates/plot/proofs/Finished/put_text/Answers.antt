-- `plot::Finished::put_text` meets its contract: the first three bytes, then the moves. Assumes nothing.
use Rattle.plot.specs.Lent.{points_of}
use Rattle.plot.proofs.Filling.{moves_fit, text_written}
use Rattle.plot.proofs.Finished.put_text.Goals as goal

pub put_moves-requires-clause-room : goal.put_moves-requires-clause-room
put_moves-requires-clause-room c = moves_fit (points_of c.args.self.now) _ _ c.put_bytes.auto.buffer c.requires.room

pub returns : goal.returns
returns c = text_written (points_of c.args.self.now) _ _ _ _ c.put_bytes.ensures c.put_moves.ensures
