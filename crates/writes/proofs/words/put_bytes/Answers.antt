-- The part that the bytes stand in is they. Assumes nothing.
use native.Mathlib.Omega.{arith}
use Rattle.writes.proofs.Texts.{put_part}
use Rattle.writes.proofs.words.put_bytes.Goals as goal

pub returns : goal.returns
returns c = put_part c.args.out.now c.args.bytes.now c.copy_from_slice.new.self c.args.at _ c.requires (omega arith) c.copy_from_slice.ensures.after
