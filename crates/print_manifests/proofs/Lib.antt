mod ExternRows
mod ManifestRows
