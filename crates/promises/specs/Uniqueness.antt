-- One outcome: of every function that another crate can name, "the answer, and every lent byte afterwards, can be computed from the input, refused calls too". Document 01, Tightness of the contracts.
-- A field says it of the function's contract as the check reads it from the source, `NAME.clauses`, so that a clause that leaves anything open is refused in proofs/Uniqueness.antt, which proves them all. Public entries first, then the library, the program and the inner functions by crate. Assumes nothing.
use Rattle.std.specs.Prelude.{◌≡◌, List, ℕ, Result}
use seplogic.Ra.Ura.{Ura}
use base.Logic.{SProp, ent, sep}
use prog.Memory.{Memory}
use prog.Routine.{Routine}
use types.Logic.{Logic}
use contract.Lifetimes.{Lfts}
use contract.Monad.{Fun, fact}
use denote.RattleType.{RattleType}
use denote.Triple.Entry.{Args, Res}
use denote.Triple.Clauses.{Ended, Clauses, AtExit}
use Rattle.bits.specs.declared.refusals.Refusal.{Refusal}
use Rattle.bits.specs.contracts.mixing.mix as mix
use Rattle.bits.specs.contracts.buffers.put as put_byte
use Rattle.bits.specs.contracts.copies.copy as copy
use Rattle.bits.specs.contracts.copies.item_of as item_of
use Rattle.bits.specs.contracts.flips.flip_quarters as flip_quarters
use Rattle.bits.specs.contracts.lanes.spread_lane as spread_lane
use Rattle.bits.specs.contracts.lanes.gather_lane as gather_lane
use Rattle.bits.specs.contracts.lanes.keep_lane as keep_lane
use Rattle.bits.specs.contracts.quarters.quarters_of as quarters_of
use Rattle.bits.specs.contracts.quarters.lines_of as lines_of
use Rattle.bits.specs.contracts.refusals.Refusal.number as refusal_number
use Rattle.memory.specs.contracts.load as load
use Rattle.memory.specs.contracts.store as store
use Rattle.memory.specs.contracts.store_masked as store_masked
use Rattle.memory.specs.contracts.writing.write_all as write_all
use Rattle.memory.specs.contracts.places.partner as partner
use Rattle.memory.specs.contracts.reading.read_all as read_all
use Rattle.words.specs.contracts.words_out as words_out
use Rattle.words.specs.contracts.words_in as words-in
use Rattle.network.specs.contracts.pass as pass
use Rattle.network.specs.contracts.wired_pass as wired_pass
use Rattle.network.specs.contracts.pass_item as pass_item
use Rattle.network.specs.contracts.pass_part as pass_part
use Rattle.network.specs.contracts.codes.find as find
use Rattle.network.specs.contracts.codes.is_code as is_code
use Rattle.network.specs.contracts.codes.unlisted as unlisted
use Rattle.network.specs.contracts.items.copied as copied
use Rattle.registers.specs.contracts.set_m as set_m
use Rattle.registers.specs.contracts.with_modes as with_modes
use Rattle.registers.specs.contracts.logic as logic
use Rattle.registers.specs.contracts.mode_bytes.modes_of as modes_of
use Rattle.registers.specs.contracts.mode_bytes.wrong_modes as wrong_modes
use Rattle.registers.specs.contracts.mode_bytes.any_set as any_set
use Rattle.registers.specs.contracts.resolver.resolve as resolve
use Rattle.registers.specs.contracts.resolver.count_responders as count_responders
use Rattle.registers.specs.contracts.ModeRegister.is_set as is_set
use Rattle.registers.specs.contracts.ModeRegister.mode_if_set as mode_if_set
use Rattle.registers.specs.contracts.rows.registers_of as registers_of
use Rattle.registers.specs.contracts.rows.write_registers as write_registers
use Rattle.judge.specs.contracts.judge as judge
use Rattle.judge.specs.contracts.judge_step as judge_step
use Rattle.judge.specs.contracts.decode as decode
use Rattle.judge.specs.contracts.unfit as unfit
use Rattle.judge.specs.contracts.Fault.at as fault_at
use Rattle.judge.specs.contracts.modes.settle as settle
use Rattle.judge.specs.contracts.modes.unset as unset
use Rattle.judge.specs.contracts.rows.stores as stores
use Rattle.judge.specs.contracts.rows.touches as touches
use Rattle.judge.specs.contracts.rows.fault as fault
use Rattle.judge.specs.contracts.rows.takes as takes
use Rattle.judge.specs.contracts.rows.gives as gives
use Rattle.judge.specs.contracts.searches.tally as tally
use Rattle.judge.specs.contracts.searches.shortage as shortage
use Rattle.judge.specs.contracts.RefusedFromRefusal.from as refused_at_instruction
use Rattle.builders.specs.contracts.field.wrong_width as wrong_width
use Rattle.builders.specs.contracts.field.beyond as beyond
use Rattle.builders.specs.contracts.Sizes.lacks as lacks
use Rattle.builders.specs.contracts.field.meets as meets
use Rattle.builders.specs.contracts.instructions.logic_from as logic_from
use Rattle.builders.specs.contracts.instructions.logic_at as logic_at
use Rattle.builders.specs.contracts.instructions.store_at as store_at
use Rattle.builders.specs.contracts.writing.put as put
use Rattle.builders.specs.contracts.writing.put_all as put_all
use Rattle.builders.specs.contracts.writing.put_item as put_item
use Rattle.registers.specs.declared.Registers.{Registers}
use Rattle.judge.specs.declared.Done.{Done}
use Rattle.judge.specs.declared.Refused.{Refused}
use Rattle.module.specs.Run.{Left}
use Rattle.module.specs.declared.Stepped.{Stepped}
use Rattle.module.specs.contracts.run as run
use Rattle.module.specs.contracts.step as step
use Rattle.module.specs.contracts.advance as advance
use Rattle.builders.specs.declared.Sizes.{Sizes}
use Rattle.builders.specs.contracts.sums.sum_list as sum_list
use Rattle.builders.specs.contracts.sums.difference_list as difference_list
use Rattle.builders.specs.contracts.searches.equal_list as equal_list
use Rattle.builders.specs.contracts.searches.less_list as less_list
use Rattle.builders.specs.contracts.searches.greatest_list as greatest_list
use Rattle.closing.specs.contracts.closing_list as closing_list
use Rattle.closing.specs.contracts.spreading_list as spreading_list
use Rattle.isolation.specs.contracts.isolated as isolated
use Rattle.isolation.specs.contracts.RefusedFromRefusal.from as refused_by_isolated
use Rattle.reach.specs.contracts.reach as reach
use Rattle.reach.specs.contracts.reach_of as reach_of
use Rattle.spelling.specs.contracts.find as find_word
use Rattle.spelling.specs.contracts.pick as pick
use Rattle.spelling.specs.contracts.when as when
use Rattle.spelling.specs.contracts.decimal as decimal
use Rattle.spelling.specs.contracts.number as number
use Rattle.spelling.specs.contracts.hex_pair as hex_pair
use Rattle.spelling.specs.contracts.pair_value as pair_value
use Rattle.spelling.specs.contracts.extended as extended
use Rattle.spelling.specs.contracts.put_word as put_word
use Rattle.lines.specs.contracts.saying.words_of as words_of
use Rattle.lines.specs.contracts.wording.worded as worded
use Rattle.lines.specs.contracts.wording.sort as sort
use Rattle.lines.specs.contracts.of_kind as of_kind
use Rattle.text.specs.declared.Refused.{Refused as AtWord}
use Rattle.text.specs.contracts.showing.show as show
use Rattle.text.specs.contracts.making.make as make
use Rattle.text.specs.contracts.RefusedFromRefusal.from as refused_at_word
use Rattle.assembly.specs.contracts.assemble as assemble
use Rattle.blocks.specs.contracts.two_at as two_at
use Rattle.blocks.specs.contracts.fault as block_fault
use Rattle.blocks.specs.contracts.seal as seal
use Rattle.contents.specs.declared.Refused.{Refused as AtBlock}
use Rattle.contents.specs.contracts.is_picture as is_picture
use Rattle.contents.specs.contracts.Kind.number as kind_number
use Rattle.contents.specs.contracts.KindTryFromUsize.try_from as kind_try_from
use Rattle.contents.specs.contracts.RefusedFromRefusal.from as refused_at_block
use Rattle.contents.specs.contracts.judge_file as judge_file
use Rattle.contents.specs.contracts.part_of as part_of
use Rattle.contents.specs.contracts.put_part as put_part
use Rattle.contents.specs.contracts.seal_all as seal_all
use Rattle.contents.specs.contracts.read_content as read_content
use Rattle.contents.specs.contracts.write_content as write_content
use Rattle.pictures.specs.contracts.read_picture as read_picture
use Rattle.pictures.specs.contracts.write_picture as write_picture
use Rattle.pictures.specs.contracts.registers_bytes as registers_bytes
use Rattle.pictures.specs.contracts.convert.to_new as to_new
use Rattle.pictures.specs.contracts.convert.to_old as to_old
use Rattle.library.specs.Left.{PassLeft, BufferLeft, TwoLeft, TargetsLeft}
use Rattle.library.specs.contracts.staran_run_4 as library_run
use Rattle.library.specs.contracts.staran_step_5 as library_step
use Rattle.library.specs.contracts.staran_pass as staran_pass
use Rattle.library.specs.contracts.staran_wired_pass as staran_wired_pass
use Rattle.library.specs.contracts.staran_sum_list as staran_sum_list
use Rattle.library.specs.contracts.staran_difference_list as staran_difference_list
use Rattle.library.specs.contracts.staran_equal_list as staran_equal_list
use Rattle.library.specs.contracts.staran_less_list as staran_less_list
use Rattle.library.specs.contracts.staran_greatest_list as staran_greatest_list
use Rattle.library.specs.contracts.staran_closing_list as staran_closing_list
use Rattle.library.specs.contracts.staran_spreading_list as staran_spreading_list
use Rattle.library.specs.contracts.staran_isolated as staran_isolated
use Rattle.library.specs.contracts.staran_reach as staran_reach
use Rattle.library.specs.contracts.staran_show as staran_show
use Rattle.library.specs.contracts.staran_make as staran_make
use Rattle.library.specs.contracts.staran_read_content as staran_read_content
use Rattle.library.specs.contracts.staran_write_content as staran_write_content
use Rattle.library.specs.contracts.staran_read_picture as staran_read_picture
use Rattle.library.specs.contracts.staran_write_picture as staran_write_picture
use Rattle.library.specs.contracts.staran_picture_to_new as staran_picture_to_new
use Rattle.library.specs.contracts.staran_picture_to_old as staran_picture_to_old
use Rattle.library.specs.contracts.staran_version as staran_version
use Rattle.report.specs.contracts.report as report
use Rattle.session.specs.declared.Counts.{Counts}
use Rattle.session.specs.contracts.session as session

-- What is seen of an outcome: of its result, and of the arguments at exit.
abbrev pub Sight : Ended → Type 0 → Type 0
Sight T O = (κs : Lfts T.signature.lifetimes) → Res T.signature κs → AtExit T κs → O

-- The contract c leaves one outcome: what it ensures of a result r and of the arguments at exit e entails that what is seen of them is what `told` computes from the arguments a, whatever its `requires` asks of these.
pub record OneOutcome {M : Type 1} (𝓤 : Ura M) (T : Ended) (c : Clauses 𝓤 T) {O : Type 0} (seen : Sight T O) : Type 2 where
  pub told : (κs : Lfts T.signature.lifetimes) → Args T.signature κs → O
  pub tells : (κs : Lfts T.signature.lifetimes) (a : Args T.signature κs) (g : (c κs a).ghost) (r : Res T.signature κs) (e : AtExit T κs)
      → ent 𝓤 ((c κs a).ensures g r e) (fact 𝓤 (seen κs r e ≡ told κs a))

-- Two outcomes that both meet the contract at the same input are seen alike.
abbrev pub Same : {M : Type 1} (𝓤 : Ura M) (T : Ended) → Clauses 𝓤 T → {O : Type 0} → Sight T O → Type 1
Same 𝓤 T c seen =
    (κs : Lfts T.signature.lifetimes) (a : Args T.signature κs) (g : (c κs a).ghost) (r₁ r₂ : Res T.signature κs) (e₁ e₂ : AtExit T κs)
    → ent 𝓤 (sep 𝓤 ((c κs a).ensures g r₁ e₁) ((c κs a).ensures g r₂ e₂)) (fact 𝓤 (seen κs r₁ e₁ ≡ seen κs r₂ e₂))

module _ {M : Type 1} {𝓤 : Ura M} (𝓛 : Logic 𝓤) (memory : Memory → SProp 𝓤) (runs : Routine → Fun 𝓤) where
  -- ---- the public entries

  pub record Entries : Type 2 where
    -- `network::pass`
    pub pass : OneOutcome 𝓤 pass.ended (pass.clauses 𝓛 memory runs) (λ κs r e. r)
    -- `network::wired_pass`
    pub wired_pass : OneOutcome 𝓤 wired_pass.ended (wired_pass.clauses 𝓛 memory runs) (λ κs r e. r)
    -- `module::run`
    pub run : OneOutcome 𝓤 run.ended (run.clauses 𝓛 memory runs) {O = Left (List ℕ) (Result Done Refused)} (λ κs r e. record { memory = e.0.now; registers = e.1.0.now; out = e.1.1.1.1.0.now; answer = r })
    -- `module::step`
    pub step : OneOutcome 𝓤 step.ended (step.clauses 𝓛 memory runs) {O = Left Registers (Result Done Refused)} (λ κs r e. record { memory = e.0.now; registers = e.1.0.now; out = e.1.1.1.1.0.now; answer = r })
    -- `module::advance`
    pub advance : OneOutcome 𝓤 advance.ended (advance.clauses 𝓛 memory runs) {O = Result Stepped Refused × List ℕ × List ℕ} (λ κs r e. (r, e.0.now, e.1.1.1.1.0.now))
    -- `builders::sums::sum_list`
    pub sum_list : OneOutcome 𝓤 sum_list.ended (sum_list.clauses 𝓛 memory runs) {O = Result ℕ Refusal × List ℕ} (λ κs r e. (r, e.1.1.1.1.0.now))
    -- `builders::sums::difference_list`
    pub difference_list : OneOutcome 𝓤 difference_list.ended (difference_list.clauses 𝓛 memory runs) {O = Result ℕ Refusal × List ℕ} (λ κs r e. (r, e.1.1.1.1.0.now))
    -- `builders::searches::equal_list`
    pub equal_list : OneOutcome 𝓤 equal_list.ended (equal_list.clauses 𝓛 memory runs) {O = Result Sizes Refusal × List ℕ × List ℕ} (λ κs r e. (r, e.1.1.1.0.now, e.1.1.1.1.0.now))
    -- `builders::searches::less_list`
    pub less_list : OneOutcome 𝓤 less_list.ended (less_list.clauses 𝓛 memory runs) {O = Result Sizes Refusal × List ℕ × List ℕ} (λ κs r e. (r, e.1.1.1.0.now, e.1.1.1.1.0.now))
    -- `builders::searches::greatest_list`
    pub greatest_list : OneOutcome 𝓤 greatest_list.ended (greatest_list.clauses 𝓛 memory runs) {O = Result ℕ Refusal × List ℕ} (λ κs r e. (r, e.1.1.0.now))
    -- `closing::closing_list`
    pub closing_list : OneOutcome 𝓤 closing_list.ended (closing_list.clauses 𝓛 memory runs) {O = Result Sizes Refusal × List ℕ × List ℕ} (λ κs r e. (r, e.1.1.1.1.0.now, e.1.1.1.1.1.0.now))
    -- `closing::spreading_list`
    pub spreading_list : OneOutcome 𝓤 spreading_list.ended (spreading_list.clauses 𝓛 memory runs) {O = Result Sizes Refusal × List ℕ × List ℕ} (λ κs r e. (r, e.1.1.1.1.0.now, e.1.1.1.1.1.0.now))
    -- `isolation::isolated`
    pub isolated : OneOutcome 𝓤 isolated.ended (isolated.clauses 𝓛 memory runs) (λ κs r e. r)
    -- `reach::reach`
    pub reach : OneOutcome 𝓤 reach.ended (reach.clauses 𝓛 memory runs) {O = Result ℕ Refusal × List ℕ} (λ κs r e. (r, e.1.1.0.now))
    -- `text::showing::show`
    pub show : OneOutcome 𝓤 show.ended (show.clauses 𝓛 memory runs) {O = Result ℕ Refusal × List ℕ} (λ κs r e. (r, e.1.0.now))
    -- `text::making::make`
    pub make : OneOutcome 𝓤 make.ended (make.clauses 𝓛 memory runs) {O = Result ℕ AtWord × List ℕ} (λ κs r e. (r, e.1.0.now))
    -- `assembly::assemble`
    pub assemble : OneOutcome 𝓤 assemble.ended (assemble.clauses 𝓛 memory runs) {O = Result Sizes AtWord × List ℕ × List ℕ} (λ κs r e. (r, e.1.0.now, e.1.1.0.now))
    -- `contents::read_content`
    pub read_content : OneOutcome 𝓤 read_content.ended (read_content.clauses 𝓛 memory runs) {O = Result ℕ AtBlock × List ℕ} (λ κs r e. (r, e.1.1.0.now))
    -- `contents::write_content`
    pub write_content : OneOutcome 𝓤 write_content.ended (write_content.clauses 𝓛 memory runs) {O = Result ℕ AtBlock × List ℕ} (λ κs r e. (r, e.1.1.0.now))
    -- `pictures::read_picture`
    pub read_picture : OneOutcome 𝓤 read_picture.ended (read_picture.clauses 𝓛 memory runs) {O = Result ℕ AtBlock × List ℕ × List ℕ} (λ κs r e. (r, e.1.1.0.now, e.1.1.1.0.now))
    -- `pictures::write_picture`
    pub write_picture : OneOutcome 𝓤 write_picture.ended (write_picture.clauses 𝓛 memory runs) {O = Result ℕ AtBlock × List ℕ} (λ κs r e. (r, e.1.1.1.0.now))
    -- `pictures::convert::to_new` and `pictures::convert::to_old`
    pub to_new : OneOutcome 𝓤 to_new.ended (to_new.clauses 𝓛 memory runs) {O = Result ℕ AtBlock × List ℕ} (λ κs r e. (r, e.1.0.now))
    pub to_old : OneOutcome 𝓤 to_old.ended (to_old.clauses 𝓛 memory runs) {O = Result ℕ AtBlock × List ℕ} (λ κs r e. (r, e.1.0.now))

  -- ---- the library for C

  pub record Library : Type 2 where
    pub run : OneOutcome 𝓤 library_run.ended (library_run.clauses 𝓛 memory runs) {O = Left (List ℕ) (List ℕ)} (λ κs r e. record { memory = e.0.now; registers = e.1.0.now; out = e.1.1.1.1.0.now; answer = e.1.1.1.1.1.0.now })
    pub step : OneOutcome 𝓤 library_step.ended (library_step.clauses 𝓛 memory runs) {O = Left Registers (List ℕ)} (λ κs r e. record { memory = e.0.now; registers = e.1.0.now; out = e.1.1.1.1.0.now; answer = e.1.1.1.1.1.0.now })
    pub pass : OneOutcome 𝓤 staran_pass.ended (staran_pass.clauses 𝓛 memory runs) {O = PassLeft} (λ κs r e. record { passed = e.1.1.1.0.now; answer = e.1.1.1.1.0.now })
    pub wired_pass : OneOutcome 𝓤 staran_wired_pass.ended (staran_wired_pass.clauses 𝓛 memory runs) {O = PassLeft} (λ κs r e. record { passed = e.1.1.1.0.now; answer = e.1.1.1.1.0.now })
    pub sum_list : OneOutcome 𝓤 staran_sum_list.ended (staran_sum_list.clauses 𝓛 memory runs) {O = BufferLeft} (λ κs r e. record { buffer = e.1.1.1.1.0.now; answer = e.1.1.1.1.1.0.now })
    pub difference_list : OneOutcome 𝓤 staran_difference_list.ended (staran_difference_list.clauses 𝓛 memory runs) {O = BufferLeft} (λ κs r e. record { buffer = e.1.1.1.1.0.now; answer = e.1.1.1.1.1.0.now })
    pub equal_list : OneOutcome 𝓤 staran_equal_list.ended (staran_equal_list.clauses 𝓛 memory runs) {O = TwoLeft} (λ κs r e. record { list = e.1.1.1.0.now; items = e.1.1.1.1.0.now; answer = e.1.1.1.1.1.0.now })
    pub less_list : OneOutcome 𝓤 staran_less_list.ended (staran_less_list.clauses 𝓛 memory runs) {O = TwoLeft} (λ κs r e. record { list = e.1.1.1.0.now; items = e.1.1.1.1.0.now; answer = e.1.1.1.1.1.0.now })
    pub greatest_list : OneOutcome 𝓤 staran_greatest_list.ended (staran_greatest_list.clauses 𝓛 memory runs) {O = BufferLeft} (λ κs r e. record { buffer = e.1.1.0.now; answer = e.1.1.1.0.now })
    pub closing_list : OneOutcome 𝓤 staran_closing_list.ended (staran_closing_list.clauses 𝓛 memory runs) {O = TwoLeft} (λ κs r e. record { list = e.1.1.1.1.0.now; items = e.1.1.1.1.1.0.now; answer = e.1.1.1.1.1.1.0.now })
    pub spreading_list : OneOutcome 𝓤 staran_spreading_list.ended (staran_spreading_list.clauses 𝓛 memory runs) {O = TwoLeft} (λ κs r e. record { list = e.1.1.1.1.0.now; items = e.1.1.1.1.1.0.now; answer = e.1.1.1.1.1.1.0.now })
    pub isolated : OneOutcome 𝓤 staran_isolated.ended (staran_isolated.clauses 𝓛 memory runs) (λ κs r e. e.1.1.0.now)
    pub reach : OneOutcome 𝓤 staran_reach.ended (staran_reach.clauses 𝓛 memory runs) {O = BufferLeft} (λ κs r e. record { buffer = e.1.1.0.now; answer = e.1.1.1.0.now })
    pub show : OneOutcome 𝓤 staran_show.ended (staran_show.clauses 𝓛 memory runs) {O = BufferLeft} (λ κs r e. record { buffer = e.1.0.now; answer = e.1.1.0.now })
    pub make : OneOutcome 𝓤 staran_make.ended (staran_make.clauses 𝓛 memory runs) {O = TwoLeft} (λ κs r e. record { list = e.1.0.now; items = e.1.1.0.now; answer = e.1.1.1.0.now })
    pub read_content : OneOutcome 𝓤 staran_read_content.ended (staran_read_content.clauses 𝓛 memory runs) {O = BufferLeft} (λ κs r e. record { buffer = e.1.1.0.now; answer = e.1.1.1.0.now })
    pub write_content : OneOutcome 𝓤 staran_write_content.ended (staran_write_content.clauses 𝓛 memory runs) {O = BufferLeft} (λ κs r e. record { buffer = e.1.1.0.now; answer = e.1.1.1.0.now })
    pub read_picture : OneOutcome 𝓤 staran_read_picture.ended (staran_read_picture.clauses 𝓛 memory runs) {O = TargetsLeft} (λ κs r e. record { memory = e.1.1.0.now; registers = e.1.1.1.0.now; answer = e.1.1.1.1.0.now })
    pub write_picture : OneOutcome 𝓤 staran_write_picture.ended (staran_write_picture.clauses 𝓛 memory runs) {O = BufferLeft} (λ κs r e. record { buffer = e.1.1.1.0.now; answer = e.1.1.1.1.0.now })
    pub to_new : OneOutcome 𝓤 staran_picture_to_new.ended (staran_picture_to_new.clauses 𝓛 memory runs) {O = BufferLeft} (λ κs r e. record { buffer = e.1.0.now; answer = e.1.1.0.now })
    pub to_old : OneOutcome 𝓤 staran_picture_to_old.ended (staran_picture_to_old.clauses 𝓛 memory runs) {O = BufferLeft} (λ κs r e. record { buffer = e.1.0.now; answer = e.1.1.0.now })
    pub version : OneOutcome 𝓤 staran_version.ended (staran_version.clauses 𝓛 memory runs) {O = ℕ} (λ κs r e. r)

  -- ---- the program: all of it but the system's calls, and its printed lines

  pub record Program : Type 2 where
    pub session : OneOutcome 𝓤 session.ended (session.clauses 𝓛 memory runs) {O = Counts × List ℕ × List ℕ} (λ κs r e. (r, e.1.1.1.0.now, e.1.1.1.1.0.now))
    pub report : OneOutcome 𝓤 report.ended (report.clauses 𝓛 memory runs) {O = ℕ × List ℕ} (λ κs r e. (r, e.1.1.1.0.now))

  -- ---- the inner functions, by crate

  -- `bits`
  pub record OfBits : Type 2 where
    pub put_byte : OneOutcome 𝓤 put_byte.ended (put_byte.clauses 𝓛 memory runs) {O = ℕ × List ℕ} (λ κs r e. (r, e.0.now))
    pub copy : OneOutcome 𝓤 copy.ended (copy.clauses 𝓛 memory runs) (λ κs r e. e.1.0.now)
    pub item_of : OneOutcome 𝓤 item_of.ended (item_of.clauses 𝓛 memory runs) (λ κs r e. r)
    pub flip_quarters : OneOutcome 𝓤 flip_quarters.ended (flip_quarters.clauses 𝓛 memory runs) (λ κs r e. r)
    -- of whatever type, since a number tells the value that it is of
    pub mix : (T : RattleType) (g : _) (d₁ : _) (c : _) (d₂ : _) (x : _) (d₃ : _) (a : _) (d₄ : _)
        → OneOutcome 𝓤 (mix.ended T g d₁ c d₂ x d₃ a d₄) (mix.clauses T g d₁ c d₂ x d₃ a d₄ 𝓛 memory runs) (λ κs r e. r)
    pub spread_lane : (TURNED : RattleType) → OneOutcome 𝓤 (spread_lane.ended TURNED) (spread_lane.clauses TURNED 𝓛 memory runs) (λ κs r e. r)
    pub gather_lane : OneOutcome 𝓤 gather_lane.ended (gather_lane.clauses 𝓛 memory runs) (λ κs r e. r)
    pub keep_lane : OneOutcome 𝓤 keep_lane.ended (keep_lane.clauses 𝓛 memory runs) (λ κs r e. r)
    pub quarters_of : OneOutcome 𝓤 quarters_of.ended (quarters_of.clauses 𝓛 memory runs) (λ κs r e. r)
    pub lines_of : OneOutcome 𝓤 lines_of.ended (lines_of.clauses 𝓛 memory runs) (λ κs r e. r)
    pub number : OneOutcome 𝓤 refusal_number.ended (refusal_number.clauses 𝓛 memory runs) (λ κs r e. r)

  -- `memory`
  pub record OfMemory : Type 2 where
    pub load : OneOutcome 𝓤 load.ended (load.clauses 𝓛 memory runs) (λ κs r e. r)
    pub store : OneOutcome 𝓤 store.ended (store.clauses 𝓛 memory runs) (λ κs r e. e.0.now)
    pub store_masked : OneOutcome 𝓤 store_masked.ended (store_masked.clauses 𝓛 memory runs) (λ κs r e. e.0.now)
    pub write_all : OneOutcome 𝓤 write_all.ended (write_all.clauses 𝓛 memory runs) (λ κs r e. e.0.now)
    pub partner : OneOutcome 𝓤 partner.ended (partner.clauses 𝓛 memory runs) (λ κs r e. r)
    pub read_all : OneOutcome 𝓤 read_all.ended (read_all.clauses 𝓛 memory runs) (λ κs r e. r)

  -- `words`
  pub record OfWords : Type 2 where
    pub words_out : OneOutcome 𝓤 words_out.ended (words_out.clauses 𝓛 memory runs) (λ κs r e. r)
    pub words_in : OneOutcome 𝓤 words-in.ended (words-in.clauses 𝓛 memory runs) (λ κs r e. e.0.now)

  -- `network`
  pub record OfNetwork : Type 2 where
    pub pass_item : OneOutcome 𝓤 pass_item.ended (pass_item.clauses 𝓛 memory runs) (λ κs r e. r)
    pub pass_part : OneOutcome 𝓤 pass_part.ended (pass_part.clauses 𝓛 memory runs) (λ κs r e. r)
    pub find : OneOutcome 𝓤 find.ended (find.clauses 𝓛 memory runs) (λ κs r e. r)
    pub is_code : OneOutcome 𝓤 is_code.ended (is_code.clauses 𝓛 memory runs) (λ κs r e. r)
    pub unlisted : OneOutcome 𝓤 unlisted.ended (unlisted.clauses 𝓛 memory runs) (λ κs r e. r)
    pub copied : OneOutcome 𝓤 copied.ended (copied.clauses 𝓛 memory runs) (λ κs r e. r)

  -- `registers`
  pub record OfRegisters : Type 2 where
    pub set_m : OneOutcome 𝓤 set_m.ended (set_m.clauses 𝓛 memory runs) (λ κs r e. r)
    pub with_modes : OneOutcome 𝓤 with_modes.ended (with_modes.clauses 𝓛 memory runs) (λ κs r e. r)
    pub logic : OneOutcome 𝓤 logic.ended (logic.clauses 𝓛 memory runs) (λ κs r e. r)
    pub modes_of : OneOutcome 𝓤 modes_of.ended (modes_of.clauses 𝓛 memory runs) (λ κs r e. r)
    pub wrong_modes : OneOutcome 𝓤 wrong_modes.ended (wrong_modes.clauses 𝓛 memory runs) (λ κs r e. r)
    pub any_set : OneOutcome 𝓤 any_set.ended (any_set.clauses 𝓛 memory runs) (λ κs r e. r)
    pub resolve : OneOutcome 𝓤 resolve.ended (resolve.clauses 𝓛 memory runs) (λ κs r e. r)
    pub count_responders : OneOutcome 𝓤 count_responders.ended (count_responders.clauses 𝓛 memory runs) (λ κs r e. r)
    pub is_set : OneOutcome 𝓤 is_set.ended (is_set.clauses 𝓛 memory runs) (λ κs r e. r)
    pub mode_if_set : OneOutcome 𝓤 mode_if_set.ended (mode_if_set.clauses 𝓛 memory runs) (λ κs r e. r)
    pub registers_of : OneOutcome 𝓤 registers_of.ended (registers_of.clauses 𝓛 memory runs) (λ κs r e. r)
    pub write_registers : OneOutcome 𝓤 write_registers.ended (write_registers.clauses 𝓛 memory runs) (λ κs r e. e.0.now)

  -- `judge`
  pub record OfJudge : Type 2 where
    pub judge : OneOutcome 𝓤 judge.ended (judge.clauses 𝓛 memory runs) (λ κs r e. r)
    pub judge_step : OneOutcome 𝓤 judge_step.ended (judge_step.clauses 𝓛 memory runs) (λ κs r e. r)
    pub decode : OneOutcome 𝓤 decode.ended (decode.clauses 𝓛 memory runs) (λ κs r e. r)
    pub unfit : OneOutcome 𝓤 unfit.ended (unfit.clauses 𝓛 memory runs) (λ κs r e. r)
    pub at : OneOutcome 𝓤 fault_at.ended (fault_at.clauses 𝓛 memory runs) (λ κs r e. r)
    pub settle : OneOutcome 𝓤 settle.ended (settle.clauses 𝓛 memory runs) (λ κs r e. r)
    pub unset : OneOutcome 𝓤 unset.ended (unset.clauses 𝓛 memory runs) (λ κs r e. r)
    pub stores : OneOutcome 𝓤 stores.ended (stores.clauses 𝓛 memory runs) (λ κs r e. r)
    pub touches : OneOutcome 𝓤 touches.ended (touches.clauses 𝓛 memory runs) (λ κs r e. r)
    pub fault : OneOutcome 𝓤 fault.ended (fault.clauses 𝓛 memory runs) (λ κs r e. r)
    pub takes : OneOutcome 𝓤 takes.ended (takes.clauses 𝓛 memory runs) (λ κs r e. r)
    pub gives : OneOutcome 𝓤 gives.ended (gives.clauses 𝓛 memory runs) (λ κs r e. r)
    pub tally : OneOutcome 𝓤 tally.ended (tally.clauses 𝓛 memory runs) (λ κs r e. r)
    pub shortage : OneOutcome 𝓤 shortage.ended (shortage.clauses 𝓛 memory runs) (λ κs r e. r)
    -- `Refused::from`, by the contract of the trait `From` and the `from_gives` of its `impl`: the refusal at place 0 and byte 0
    pub from : OneOutcome 𝓤 refused_at_instruction.ended (refused_at_instruction.clauses 𝓛 memory runs) (λ κs r e. r)

  -- `builders`
  pub record OfBuilders : Type 2 where
    pub wrong_width : OneOutcome 𝓤 wrong_width.ended (wrong_width.clauses 𝓛 memory runs) (λ κs r e. r)
    pub beyond : OneOutcome 𝓤 beyond.ended (beyond.clauses 𝓛 memory runs) (λ κs r e. r)
    pub lacks : OneOutcome 𝓤 lacks.ended (lacks.clauses 𝓛 memory runs) (λ κs r e. r)
    pub meets : OneOutcome 𝓤 meets.ended (meets.clauses 𝓛 memory runs) (λ κs r e. r)
    pub put : OneOutcome 𝓤 put.ended (put.clauses 𝓛 memory runs) (λ κs r e. e.0.now)
    pub put_all : OneOutcome 𝓤 put_all.ended (put_all.clauses 𝓛 memory runs) (λ κs r e. e.0.now)
    pub put_item : OneOutcome 𝓤 put_item.ended (put_item.clauses 𝓛 memory runs) (λ κs r e. e.0.now)
    pub logic_from : OneOutcome 𝓤 logic_from.ended (logic_from.clauses 𝓛 memory runs) (λ κs r e. r)
    pub logic_at : OneOutcome 𝓤 logic_at.ended (logic_at.clauses 𝓛 memory runs) (λ κs r e. r)
    pub store_at : OneOutcome 𝓤 store_at.ended (store_at.clauses 𝓛 memory runs) (λ κs r e. r)

  -- `isolation`
  pub record OfIsolation : Type 2 where
    -- `Refused::from`, by its `from_gives`: the refusal at place 0
    pub from : OneOutcome 𝓤 refused_by_isolated.ended (refused_by_isolated.clauses 𝓛 memory runs) (λ κs r e. r)

  -- `reach`
  pub record OfReach : Type 2 where
    pub reach_of : OneOutcome 𝓤 reach_of.ended (reach_of.clauses 𝓛 memory runs) (λ κs r e. r)

  -- `spelling`
  pub record OfSpelling : Type 2 where
    pub find : OneOutcome 𝓤 find_word.ended (find_word.clauses 𝓛 memory runs) (λ κs r e. r)
    pub pick : OneOutcome 𝓤 pick.ended (pick.clauses 𝓛 memory runs) (λ κs r e. r)
    pub when : OneOutcome 𝓤 when.ended (when.clauses 𝓛 memory runs) (λ κs r e. r)
    pub decimal : OneOutcome 𝓤 decimal.ended (decimal.clauses 𝓛 memory runs) (λ κs r e. r)
    pub number : OneOutcome 𝓤 number.ended (number.clauses 𝓛 memory runs) (λ κs r e. r)
    pub hex_pair : OneOutcome 𝓤 hex_pair.ended (hex_pair.clauses 𝓛 memory runs) (λ κs r e. r)
    pub pair_value : OneOutcome 𝓤 pair_value.ended (pair_value.clauses 𝓛 memory runs) (λ κs r e. r)
    pub extended : OneOutcome 𝓤 extended.ended (extended.clauses 𝓛 memory runs) (λ κs r e. r)
    pub put_word : OneOutcome 𝓤 put_word.ended (put_word.clauses 𝓛 memory runs) {O = ℕ × List ℕ} (λ κs r e. (r, e.0.now))

  -- `lines`
  pub record OfLines : Type 2 where
    pub words_of : OneOutcome 𝓤 words_of.ended (words_of.clauses 𝓛 memory runs) (λ κs r e. r)
    pub of_kind : OneOutcome 𝓤 of_kind.ended (of_kind.clauses 𝓛 memory runs) (λ κs r e. r)
    pub worded : OneOutcome 𝓤 worded.ended (worded.clauses 𝓛 memory runs) (λ κs r e. r)
    pub sort : OneOutcome 𝓤 sort.ended (sort.clauses 𝓛 memory runs) (λ κs r e. r)

  -- `text`
  pub record OfText : Type 2 where
    -- `Refused::from`, by its `from_gives`: the refusal `nowhere`, at line 0 and column 0
    pub from : OneOutcome 𝓤 refused_at_word.ended (refused_at_word.clauses 𝓛 memory runs) (λ κs r e. r)

  -- `blocks`
  pub record OfBlocks : Type 2 where
    pub two_at : OneOutcome 𝓤 two_at.ended (two_at.clauses 𝓛 memory runs) (λ κs r e. r)
    pub fault : OneOutcome 𝓤 block_fault.ended (block_fault.clauses 𝓛 memory runs) (λ κs r e. r)
    pub seal : OneOutcome 𝓤 seal.ended (seal.clauses 𝓛 memory runs) (λ κs r e. e.1.1.1.1.0.now)

  -- `contents`
  pub record OfContents : Type 2 where
    pub is_picture : OneOutcome 𝓤 is_picture.ended (is_picture.clauses 𝓛 memory runs) (λ κs r e. r)
    pub number : OneOutcome 𝓤 kind_number.ended (kind_number.clauses 𝓛 memory runs) (λ κs r e. r)
    -- `Kind::try_from`, by the contract of the trait `TryFrom` and the `try_from_gives` of its `impl`: `KindOf`, the kind that has the number, or else 22
    pub try_from : OneOutcome 𝓤 kind_try_from.ended (kind_try_from.clauses 𝓛 memory runs) (λ κs r e. r)
    -- `Refused::from`, by its `from_gives`: the refusal at place 0
    pub from : OneOutcome 𝓤 refused_at_block.ended (refused_at_block.clauses 𝓛 memory runs) (λ κs r e. r)
    pub judge_file : OneOutcome 𝓤 judge_file.ended (judge_file.clauses 𝓛 memory runs) (λ κs r e. r)
    pub part_of : OneOutcome 𝓤 part_of.ended (part_of.clauses 𝓛 memory runs) (λ κs r e. e.1.1.0.now)
    pub put_part : OneOutcome 𝓤 put_part.ended (put_part.clauses 𝓛 memory runs) (λ κs r e. e.1.1.0.now)
    pub seal_all : OneOutcome 𝓤 seal_all.ended (seal_all.clauses 𝓛 memory runs) (λ κs r e. e.1.1.1.0.now)

  -- `pictures`
  pub record OfPictures : Type 2 where
    pub registers_bytes : OneOutcome 𝓤 registers_bytes.ended (registers_bytes.clauses 𝓛 memory runs) (λ κs r e. r)

  -- ---- all of them

  pub record Uniqueness : Type 2 where
    -- "Uniqueness is proved"
    pub same : (T : Ended) (c : Clauses 𝓤 T) (O : Type 0) (seen : Sight T O) → OneOutcome 𝓤 T c seen → Same 𝓤 T c seen
    pub entries : Entries
    pub library : Library
    pub program : Program
    pub of_bits : OfBits
    pub of_memory : OfMemory
    pub of_words : OfWords
    pub of_network : OfNetwork
    pub of_registers : OfRegisters
    pub of_judge : OfJudge
    pub of_builders : OfBuilders
    pub of_isolation : OfIsolation
    pub of_reach : OfReach
    pub of_spelling : OfSpelling
    pub of_lines : OfLines
    pub of_text : OfText
    pub of_blocks : OfBlocks
    pub of_contents : OfContents
    pub of_pictures : OfPictures
