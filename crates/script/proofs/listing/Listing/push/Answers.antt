-- The monomial goes behind the others, or is left out where there is no room.
use Rattle.std.proofs.Common.{arith}
use Rattle.script.proofs.Listings.{listed_more, listed_full}
use Rattle.script.proofs.listing.Listing.push.Goals as goal

pub returns-then-self-lt-MAX_LISTED : goal.returns-then-self-lt-MAX_LISTED
returns-then-self-lt-MAX_LISTED c =
    listed_more 65 c.args.self.now.len c.args.self.now.items c.args.m (omega arith) (omega arith)

pub returns-else-self-lt-MAX_LISTED : goal.returns-else-self-lt-MAX_LISTED
returns-else-self-lt-MAX_LISTED c =
    listed_full 65 c.args.self.now.len c.args.self.now.items c.args.m (omega arith) (omega arith)
