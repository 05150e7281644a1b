-- `listing::call_at` meets its contract: the fields that are left, read after the values so far, give what all of them give. Assumes nothing.
use Rattle.std.proofs.Common.{[], refl, sym, ap, ◌∙◌, arith, length, length-take-le, get_or, ◌+◌, Err}
use Rattle.std.proofs.Math.ListN.{length-set}
use Rattle.listing.specs.Reading.{Placed, fields_from, Drawing, call_as}
use Rattle.listing.proofs.FieldLaws.{row_off, row_on, row_inside, row_end}
use Rattle.listing.proofs.CommandLaws.{fields_fault, fields_drawn, passed_on, some_of_ok, none_of_err, at_most_eight}
use Rattle.listing.proofs.commands.call_at.Goals as goal
use Rattle.listing.proofs.commands.call_at.Goals.{In_ok-values}

pub loop-i-init : goal.loop-i-init
loop-i-init c = record {
  placed = c.requires;
  room = refl;
  keys = c.keys-keys.ensures;
  rest = ap (fields_from _ _ _ []) c.keys-keys.ensures;
}

pub returns-in_err-values : goal.returns-in_err-values
returns-in_err-values c =
    let q = none_of_err _ _ _ (sym c.ok_or.ensures.value ∙ c.in_err-values.was) in
    ap (λ r. call_as r c.loop-i.place) (passed_on c.from_residual.result _ c.from_residual.ensures.1 ∙ ap Err q.1)
    ∙ fields_fault _ _ _ (row_off _ _ _ _ _ c.loop-i.i _ c.loop-i-test.true (sym c.field_at.ensures ∙ q.0) ∙ c.loop-i.invariant.rest)

pub bounds-values-i : goal.bounds-values-i
bounds-values-i c = omega (arith, at_most_eight _ _ c.loop-i.invariant.keys)

-- the place behind the field that was read
behind : (c : In_ok-values) → Placed c.args.listing.now (c.loop-i.place.at + (length (get_or c.keys-keys.result.now c.loop-i.i (record { ref_ptr = (0, 0); now = [] })).now + 10)) (c.loop-i.place.line + 1)
behind c = row_inside _ c.keys-keys.result.now c.loop-i.values _ _ c.loop-i.i _ c.loop-i-test.true _ (sym c.field_at.ensures ∙ some_of_ok _ _ _ (sym c.ok_or.ensures.value ∙ c.in_ok-values.was)) c.loop-i.invariant.placed

pub overflow_add-place-in-loop-i : goal.overflow_add-place-in-loop-i
overflow_add-place-in-loop-i c = omega (arith, (behind c).inside)

pub overflow_add-place-in-loop-i-2 : goal.overflow_add-place-in-loop-i-2
overflow_add-place-in-loop-i-2 c = omega (arith, c.loop-i.invariant.placed.counted, c.loop-i.invariant.placed.inside)

pub loop-i-preserved : goal.loop-i-preserved
loop-i-preserved c = record {
  placed = behind (goal.at.loop-i-preserved c).In_ok-values;
  room = length-set _ _ _ ∙ c.loop-i.invariant.room;
  keys = c.loop-i.invariant.keys;
  rest =
      row_on _ _ _ _ _ c.loop-i.i _ c.loop-i-test.true _ (omega (arith, at_most_eight _ _ c.loop-i.invariant.keys))
      (sym c.field_at.ensures ∙ some_of_ok _ _ _ (sym c.ok_or.ensures.value ∙ c.in_ok-values.was))
      ∙ c.loop-i.invariant.rest;
}

pub slice_bounds-values-end : goal.slice_bounds-values-end
slice_bounds-values-end c = omega (arith, at_most_eight _ _ c.loop-i.invariant.keys)

pub returns : goal.returns
returns c =
    ap (λ call. Drawing call c.loop-i.place.at c.loop-i.place.line) c.call.ensures
    ∙ fields_drawn _ _ _ _ _ _ _ refl refl (row_end _ _ _ _ _ c.loop-i.i c.loop-i-test.false (omega arith) ∙ c.loop-i.invariant.rest)

pub slice_bounds-call-end : goal.slice_bounds-call-end
slice_bounds-call-end c = sym (length-take-le _ _ (omega (arith, at_most_eight _ _ c.loop-i.invariant.keys)))
