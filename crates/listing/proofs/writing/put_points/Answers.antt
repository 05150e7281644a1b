-- `listing::put_points` meets its contract: the points that are left, written after those already written. Assumes nothing.
use Rattle.std.proofs.Common.{refl, ◌∙◌, arith}
use lib.Ieee.{of_bits, nan}
use lib.ListN.{get_or}
use Rattle.columns.specs.Flags.{is_flag_of}
use Rattle.point.specs.Point.{point_at}
use Rattle.evaluate.specs.Evaluate.{finished}
use Rattle.text.proofs.Written.{written_same}
use Rattle.listing.proofs.WritingLaws.{point_length, row_lines, point_on, points_end}
use Rattle.listing.proofs.writing.put_points.Goals as goal

pub point_lines-next-requires : goal.point_lines-next-requires
point_lines-next-requires c = omega (arith, c.requires, c.loop-i-test.true, c.loop-i.invariant.0, c.loop-i.invariant.1)

pub loop-i-preserved : goal.loop-i-preserved
unfolding of_bits
loop-i-preserved c =
    let p = c.args.points.now in (
      omega (
        arith,
        c.loop-i.invariant.0,
        c.point_lines-next.ensures.next,
        point_length (finished (point_at (get_or p.x.now c.loop-i.i nan) c.read-y.result) (is_flag_of c.read-flag.result)),
      ),
      c.point_lines-next.auto.buffer ∙ c.loop-i.invariant.1,
      point_on _ _ _ _ _ _ _ _ _ _ _ c.loop-i-test.true c.loop-i.invariant.2
          (written_same _ _ _ _ _ _ (row_lines p.x.now p.y.now p.end.now c.loop-i.i _ _ _ refl c.read-y.ensures c.read-flag.ensures)
          c.point_lines-next.ensures),
    )

pub returns : goal.returns
returns c = points_end _ _ _ _ _ _ _ _ _ c.loop-i-test.false c.loop-i.invariant.2
