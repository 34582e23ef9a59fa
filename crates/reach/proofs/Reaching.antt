-- What a store reaches, of specs/Reaching.antt: the laws of this crate at width 8. Assumes nothing.
use Rattle.bits.specs.Bits.{bit_of}
use Rattle.bits.proofs.Items.{bit_of-bit}
use Rattle.registers.specs.Modes.{modes_of}
use Rattle.judge.specs.Instructions.{instruction_at}
use Rattle.judge.specs.Modes.{modes_after}
use Rattle.reach.specs.Reaching.{Reaching}
use Rattle.reach.proofs.MeetingLaws.{line-met, met-line, store-leaves}
use Rattle.reach.proofs.CountLaws.{met-count}
use Rattle.reach.proofs.BeyondLaws.{step-leaves, run-leaves, mode-low, reach-counts}

pub reaching : Reaching
reaching =
    record {
      meeting = λ m g h. record { lines = line-met 8 m g h; words = met-line 8 m g h; many = met-count m g h };
      store = λ mem l m g mask w hw u b hb. store-leaves m g mask (bit_of l) mem (bit_of-bit l) w b hw hb u;
      step = λ i items s w hw. step-leaves w hw i items s;
      run = λ l w hw. run-leaves w hw l;
      counts = λ l registers list k. reach-counts (modes_after l.list (modes_of l.registers) k) (instruction_at l.list k)
          (mode-low l.list list (modes_of l.registers) (registers 97, registers 99) k);
    }
