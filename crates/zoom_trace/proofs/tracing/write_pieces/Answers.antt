use Rattle.std.proofs.Common.{◌≡◌, [], rules, drop_of_length-le}
use Rattle.zoom_trace.proofs.TracedLines.{put_piece, all_put}
use Rattle.zoom_trace.proofs.tracing.write_pieces.Goals as goal

pub loop-preserved : goal.loop-preserved
loop-preserved g c =
    put_piece _ _ _ _ _ c.in-Some.count c.write_piece.result c.loop.invariant c.write_piece.ensures.bytes c.in-Some.is

pub returns-then-is_empty : goal.returns-then-is_empty
returns-then-is_empty g c =
    let rest = c.loop.rest.now in
    let empty : rest ≡ [] = drop_of_length-le rest {i = 0} (search rules) in
    all_put _ _ _ rest c.loop.invariant empty
