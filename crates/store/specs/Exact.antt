-- 31 in one sentence: a slice is a hall's stored form just if some valid hall's form begins it; and a valid hall's form
-- begins it just if it is stored and holds that hall. So `Valid` says which halls have a form, each just one.
-- Assumes nothing.
use Rattle.std.specs.Prelude.{ℕ, ◌≡◌, true, List, take}
use Rattle.model.specs.Hall.{Hall}
use Rattle.store.specs.Layout.{stored_length}
use Rattle.store.specs.Valid.{ValidHall}
use Rattle.store.specs.StoredForm.{stored, hall_of, is_stored}

-- the form of a valid hall begins b
pub record Begun (b : List ℕ) (h : Hall) : Type 0 where
  pub valid : ValidHall h
  pub begins : take stored_length b ≡ stored h

-- some hall's does
pub record SomeBegun (b : List ℕ) : Type 0 where
  pub hall : Hall
  pub begun : Begun b hall

pub record StoredExactly (b : List ℕ) : Type 0 where
  pub some : is_stored b ≡ true → SomeBegun b
  pub only : SomeBegun b → is_stored b ≡ true
  pub reads : (h : Hall) → ValidHall h → is_stored b ≡ true → hall_of b ≡ h → take stored_length b ≡ stored h
  pub holds : (h : Hall) → ValidHall h → take stored_length b ≡ stored h → (is_stored b ≡ true) × (hall_of b ≡ h)
