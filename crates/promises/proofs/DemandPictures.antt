-- Document 02, Eight, of specs/DemandPictures.antt: the laws of the conversions and of the program, by name. Assumes nothing.
use Rattle.pictures.proofs.ConversionDemand.{new-back, new-reads, old-back, old-reads}
use Rattle.session.proofs.SessionDemand.{none-lost}
use Rattle.session.proofs.NextRun.{next-run}
use Rattle.promises.specs.DemandPictures.{DemandPictures}

pub demand-pictures : DemandPictures
demand-pictures =
    record {
      conversions = record { new_and_back = new-back; old_and_back = old-back; new_reads = new-reads; old_reads = old-reads };
      modes_kept = record { none_lost = none-lost; next_run = next-run };
    }
