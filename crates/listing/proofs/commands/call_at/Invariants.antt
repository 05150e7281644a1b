-- `listing::call_at` meets its contract: the fields that are left, read after the values so far, give what all of them give. Assumes nothing.
use Rattle.std.proofs.Common.{◌≡◌, [], length, take, drop}
use Rattle.listing.specs.Grammar.{keys_of, key_texts}
use Rattle.listing.specs.Reading.{Placed, fields_from}
use Rattle.listing.proofs.commands.call_at.Given as goal

abbrev pub invariant-loop-i : goal.invariant-loop-i
invariant-loop-i l = record {
  placed : Placed l.listing l.place.at l.place.line;
  room : length l.values ≡ 8;
  keys : key_texts l.keys ≡ keys_of l.op;
  rest : fields_from l.listing l.place.at l.place.line (take l.i l.values) (drop l.i (key_texts l.keys)) ≡ fields_from l.listing l.initial.place.at l.initial.place.line [] (keys_of l.op);
}
