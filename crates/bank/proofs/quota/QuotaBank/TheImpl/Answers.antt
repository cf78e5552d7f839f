-- What each call says by the bank below is what a bank says of its own rack.
use Rattle.bank.specs.Limited.{length-limited, sled_at-limited, fetch_limited, puts_limited, blank_limited}
use Rattle.bank.proofs.quota.QuotaBank.TheImpl.Goals as goal

pub sleds-tells : goal.sleds-tells
sleds-tells g c = simp length-limited c.ensures

pub has-tells : goal.has-tells
has-tells g c = simp sled_at-limited c.ensures

pub room-tells : goal.room-tells
room-tells g c = simp sled_at-limited c.ensures

pub size-tells : goal.size-tells
size-tells g c = simp sled_at-limited c.ensures

pub count-tells : goal.count-tells
count-tells g c = simp sled_at-limited c.ensures

pub fetch-tells : goal.fetch-tells
fetch-tells g c = fetch_limited _ c.ensures

pub put-tells : goal.put-tells
put-tells g c = rw c.ensures.limits (puts_limited _ c.ensures.below)

pub blank-tells : goal.blank-tells
blank-tells g c = rw c.ensures.limits (blank_limited _ c.ensures.below)
