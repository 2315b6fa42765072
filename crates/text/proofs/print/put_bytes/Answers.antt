use Rattle.std.specs.Prelude.{refl}
use Rattle.text.specs.PrintLaws.{put_bytes_copied}
use Rattle.text.proofs.print.put_bytes.Goals as goal

pub returns : goal.returns
returns c = record { exact = put_bytes_copied _ _ c.copy_from_slice.ensures.after; after = refl }
