-- `audit_words::row::Row::number` meets its contract: a number of 64 bits has at most 20 digits. Assumes nothing.
use Rattle.std.proofs.Common.{arith, length-append}
use Rattle.text.specs.Digits.{number}
use Rattle.audit_words.proofs.RowLaws.{take_sets, number_most, number_room}
use Rattle.audit_words.proofs.row.Row.number.Goals as goal

pub put_number-self-inside-requires : goal.put_number-self-inside-requires
put_number-self-inside-requires g c =
    record { room = number_room c.self.inside.bytes c.args.self.now c.self.inside.len c.args.n c.self.view_is (omega arith) (omega arith) (omega arith) }

pub invariant_of-self : goal.invariant_of-self
invariant_of-self g c =
    omega (arith, c.put_number-self-inside.ensures.next, number_room c.self.inside.bytes c.args.self.now c.self.inside.len c.args.n c.self.view_is (omega arith) (omega arith) (omega arith))

pub returns-clause-digits : goal.returns-clause-digits
returns-clause-digits g c =
    let room = number_room c.self.inside.bytes c.args.self.now c.self.inside.len c.args.n c.self.view_is (omega arith) (omega arith) (omega arith) in
    rw (c.put_number-self-inside.ensures.next, c.put_number-self-inside.ensures.text, take_sets c.self.inside.bytes (number c.args.n) c.self.inside.len room, c.self.view_is)

pub returns-clause-within : goal.returns-clause-within
returns-clause-within g c =
    let most = number_most c.args.n (omega arith) in
    let size = length-append c.args.self.now (number c.args.n) in
    rw (returns-clause-digits g c) (record { onward = omega arith; most = omega arith })
