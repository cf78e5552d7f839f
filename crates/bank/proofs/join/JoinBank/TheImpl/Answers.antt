-- What a call says by the two banks below is what a bank says of its own rack.
use Rattle.bank.specs.Joined.{length-joined, fetch_joined, put_joined, blank_joined}
use Rattle.bank.proofs.join.JoinBank.TheImpl.Goals as goal

pub sleds-tells : goal.sleds-tells
sleds-tells g c = simp length-joined c.ensures

pub fetch-tells : goal.fetch-tells
fetch-tells g c = fetch_joined _ _ (g.met.L.Bank.sound c.args.self.now.first).at_most c.ensures

pub put-tells : goal.put-tells
put-tells g c = put_joined _ _ _ _ (g.met.L.Bank.sound c.args.self.now.first).at_most c.ensures

pub blank-tells : goal.blank-tells
blank-tells g c = blank_joined _ _ _ _ (g.met.L.Bank.sound c.args.self.now.first).at_most c.ensures
