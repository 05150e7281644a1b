-- `evaluate::writing::write_spline` meets its contract: the Start, the steps and the End, one after the other. Assumes nothing.
use Prim.Native.Nat.{◌≤◌}
use native.Mathlib.Omega.{arith}
use mathlib.Core.Path.{◌≡◌}
use Rattle.point.specs.declared.Setting.TheVariants.{Screen}
use Rattle.evaluate.proofs.Passes.{few, start_place, end_place, spline_passes}
use Rattle.evaluate.proofs.writing.write_spline.Goals.{After-write_steps-to}
use Rattle.evaluate.proofs.writing.write_spline.Goals as goal

-- how far the place has come
stepped_place : (c : After-write_steps-to)
    → (c.write_steps-to.result.at ≤ 0x4000_0000_0002_0000)
    × (c.args.setting ≡ Screen → c.write_steps-to.result.cursor ≤ 0x4000_0000_0002_0000)
stepped_place c =
    end_place _ _ _ _ _ _ c.args.from c.write_start-start.result _ _ _ (few _ _ c.steps-n.ensures) c.requires c.cursor_start.ensures
    (start_place _ _ _ _ _ _ _ c.write_start-start.ensures.written) c.write_steps-to.ensures.written

pub write_steps-to-requires : goal.write_steps-to-requires
write_steps-to-requires c =
    (few _ _ c.steps-n.ensures, omega (arith, (start_place _ _ _ _ _ _ _ c.write_start-start.ensures.written).0, c.requires.0))

pub overflow_add-at : goal.overflow_add-at
overflow_add-at c = omega (arith, (stepped_place (goal.at.overflow_add-at c).After-write_steps-to).0)

pub end_cursor-requires : goal.end_cursor-requires
end_cursor-requires c = (stepped_place (goal.at.end_cursor-requires c).After-write_steps-to).1

pub returns-clause-written : goal.returns-clause-written
returns-clause-written c =
    spline_passes _ _ _ _ _ _ _ _ _ _ _ _ _ _ _ _ _
    c.cursor_start.ensures
    c.write_start-start.ensures.written
    c.size-size.ensures
    c.steps-n.ensures
    c.write_steps-to.ensures.written
    c.from-word.ensures
    c.write_entry.ensures.written
    c.end_cursor.ensures
