use Rattle.std.proofs.Common.{sym, refl, ap}
use Rattle.std.specs.Prelude.{is_some}
use Rattle.relay_routes.specs.Transports.{transport_named}
use Rattle.relay_job.specs.Settings.{delimiter_value, seed_value, choice_value}
use Rattle.relay_job.specs.SettingValues.{setting_in}
use Rattle.relay_job.proofs.SettingFacts.{HasSet-known, is_other, unknown_key}
use Rattle.relay_job.proofs.setting_values.SettingValues.set_choice.Goals as goal

pub returns-then-eq : goal.returns-then-eq
returns-then-eq c = λ at read. HasSet-known delimiter_value at read c.as_slice.ensures c.eq.ensures c.if-eq.true (ap (λ v. v.delimiter) read.values) (λ text. refl) c.read_delimiter.ensures c.put.ensures.good (λ e. rw (c.put.ensures.put e, c.read_delimiter.ensures, read.values))

pub returns-then-eq-2 : goal.returns-then-eq-2
returns-then-eq-2 c = λ at read. HasSet-known transport_named at read c.as_slice-else-eq.ensures c.eq-else-eq.ensures c.if-eq-2.true (ap (λ v. v.default_transport) read.values) (λ text. refl) c.named.ensures c.put-then-eq-2.ensures.good (λ e. rw (c.put-then-eq-2.ensures.put e, c.named.ensures, read.values))

pub returns-then-eq-3 : goal.returns-then-eq-3
returns-then-eq-3 c = λ at read. HasSet-known seed_value at read c.as_slice-else-eq-2.ensures c.eq-else-eq-2.ensures c.if-eq-3.true (ap (λ v. v.seed) read.values) (λ text. refl) c.read_seed.ensures c.put-then-eq-3.ensures.good (λ e. rw (c.put-then-eq-3.ensures.put e, c.read_seed.ensures, read.values))

pub returns-then-eq-4 : goal.returns-then-eq-4
returns-then-eq-4 c = λ at read. HasSet-known choice_value at read c.as_slice-else-eq-3.ensures c.eq-else-eq-3.ensures c.if-eq-4.true (ap (λ v. v.expand) read.values) (λ text. refl) c.read_choice.ensures c.put-then-eq-4.ensures.good (λ e. rw (c.put-then-eq-4.ensures.put e, c.read_choice.ensures, read.values))

pub returns-else-eq-4 : goal.returns-else-eq-4
returns-else-eq-4 c = λ at read. record {
  fresh = sym (unknown_key (setting_in c.args.setting) c.requires.no_text c.requires.no_limit
      (is_other c.args.setting.key.now c.as_slice.ensures c.eq.ensures c.if-eq.false)
      (is_other c.args.setting.key.now c.as_slice-else-eq.ensures c.eq-else-eq.ensures c.if-eq-2.false)
      (is_other c.args.setting.key.now c.as_slice-else-eq-2.ensures c.eq-else-eq-2.ensures c.if-eq-3.false)
      (is_other c.args.setting.key.now c.as_slice-else-eq-3.ensures c.eq-else-eq-3.ensures c.if-eq-4.false)
      (is_some (at c.args.setting.key.now)));
  set = λ e. absurd (let no : ⊥ = cc in no);
}
