-- `charmap_header::ends` meets its contract: no token is left where nothing but blanks is.
use Rattle.charmap_header.proofs.WordLaws.{ends-told}
use Rattle.charmap_header.proofs.ends.Goals as goal

pub returns : goal.returns
returns c = search ends-told
