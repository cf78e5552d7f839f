use Rattle.std.proofs.Common.{arith}
use Rattle.code.specs.Codes.{numbers}
use Rattle.code.proofs.RoundTrip.{gives_back}
use Rattle.code.proofs.decoding.decode_in.Goals as goal

pub returns-clause-restores : goal.returns-clause-restores
returns-clause-restores g c =
    gives_back g.F.Field.model g.met.F.Field.lawful (numbers c.args.code) c.args.len c.args.shares.now c.args.payloads.now c.args.out.now c.decode_with.new.out c.decode_with.result
    c.args.code.numbers.0 (omega (arith, c.args.code.numbers)) c.args.code.numbers.4 c.decode_with.ensures
