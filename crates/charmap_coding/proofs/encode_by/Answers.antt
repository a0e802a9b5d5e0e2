use Rattle.charmap_coding.proofs.AcceptLaws.{area-size}
use Rattle.charmap_coding.proofs.EncodeLaws.{encode-uncoded, encode-short, encode-written}
use Rattle.charmap_coding.proofs.encode_by.Goals as goal

pub all_coded-coded-requires-clause-in_bounds : goal.all_coded-coded-requires-clause-in_bounds
all_coded-coded-requires-clause-in_bounds c = search area-size

pub returns-then-not-coded : goal.returns-then-not-coded
returns-then-not-coded c = search encode-uncoded

pub returns-then-room-s : goal.returns-then-room-s
returns-then-room-s c = search encode-short

pub write_bytes-requires-clause-in_bounds : goal.write_bytes-requires-clause-in_bounds
write_bytes-requires-clause-in_bounds c = search area-size

pub returns : goal.returns
returns c = search encode-written
