use Rattle.code.proofs.Basis.{one_polynomial}
use Rattle.code.proofs.Payloads.{one_payload}
use Rattle.code.proofs.theorems.payloads_stand.Goals as goal

pub returns : goal.returns
returns g c = record {
  polynomial = one_polynomial g.F.Field.model g.met.F.Field.lawful;
  payload = one_payload g.F.Field.model g.met.F.Field.lawful;
}
