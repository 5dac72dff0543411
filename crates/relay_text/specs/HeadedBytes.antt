-- What a contract sees of bytes that stand beside a head.
use Rattle.std.specs.Prelude.{ℕ, List, refl}
use Rattle.std.specs.Coded.{Coded, code_by, coded×, coded_ℕ, coded_list}

pub record HeadedBytes (H : Type 0) : Type 0 where
  pub head : H
  pub bytes : List ℕ

-- stored as the pair of its fields
abbrev pub headed_bytes_code : {H : Type 0} → Coded H → Coded (HeadedBytes H)
headed_bytes_code {H} code =
    code_by (H × List ℕ) (coded× code (coded_list coded_ℕ)) (λ v. (v.head, v.bytes))
    (λ p. record { head = p.0; bytes = p.1 }) (λ _. refl)
