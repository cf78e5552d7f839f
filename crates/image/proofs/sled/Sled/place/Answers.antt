use Rattle.std.proofs.Common.{ap₂}
use Rattle.image.specs.Places.{place_of}
use Rattle.image.proofs.Scanned.{chunk_at}
use Rattle.image.proofs.sled.Sled.place.Goals as goal

pub returns : goal.returns
returns c =
    let entry = rw c.unwrap.ensures at c.first_chunk.ensures.cases in
    let cell = rw c.unwrap-2.ensures at c.first_chunk-2.ensures.cases in
    ap₂ place_of
    (chunk_at c.args.self.now.bytes.now _ c.entry_at-entry.result _ 16 c.entry_at-entry.ensures.value entry)
    (chunk_at c.args.self.now.bytes.now _ c.cell_at-cell.result _ 1024 c.cell_at-cell.ensures.value cell)
